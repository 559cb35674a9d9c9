use Rattle.std.proofs.Common.{◌≡◌, ◌+◌, ◌*◌, ◌/◌, ◌%◌, ◌^◌, ◌-◌, [], ◌∷◌, ◌++◌, length, arith, ap, ◌∙◌, rules}
use Rattle.std.proofs.lemmas.List.{length_push}
use Rattle.gsm_alphabet.specs.Bits.{completed}
use Rattle.gsm_alphabet.proofs.BitLemmas.{shifted, after_octet_fits, octet_out}
use Rattle.gsm_alphabet.proofs.DigitLemmas.{completed_push}
use Rattle.gsm_alphabet.proofs.packing.put_septet.Goals as goal

pub invariant_of-result-2-clause-fit : goal.invariant_of-result-2-clause-fit
invariant_of-result-2-clause-fit c =
    let same : c.from.result ≡ c.args.septet = search rules in
    let whole = shifted c.from.result c.args.waiting.count (omega arith) (omega arith) in
    rw whole (after_octet_fits c.args.waiting.bits c.from.result c.args.waiting.count (omega arith) (omega arith) (omega arith))

pub returns-clause-completed : goal.returns-clause-completed
returns-clause-completed c = λ total rest room.
    let same : c.from.result ≡ c.args.septet = search rules in
    let n = c.args.waiting.bits in
    let k = c.args.waiting.count in
    let old = c.args.octets.now in
    let all = n + c.from.result * 2 ^ k % 65536 in
    let whole = shifted c.from.result k (omega arith) (omega arith) in
    let out : all % 256 + 256 * (all / 256 + 2 ^ (k - 1) * rest) ≡ n + 2 ^ k * (c.from.result + 128 * rest) = rw whole (octet_out n c.from.result k rest (omega arith)) in
    let grown : c.push.new.self ≡ old ++ (all % 256) ∷ [] = c.in_ok-push.ensures.ok in
    ap (λ l. completed 256 total l (all / 256 + 2 ^ (k - 1) * rest)) grown
    ∙ completed_push 256 total old (all % 256) (all / 256 + 2 ^ (k - 1) * rest) (omega arith) (omega (arith, ap length grown, length_push old (all % 256)))
    ∙ ap (completed 256 total old) (out ∙ ap (λ s. n + 2 ^ k * (s + 128 * rest)) same)
