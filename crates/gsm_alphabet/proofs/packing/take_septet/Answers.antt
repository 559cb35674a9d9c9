use Rattle.std.proofs.Common.{◌≡◌, ◌+◌, ◌*◌, ◌^◌, ◌∷◌, drop, get_or, arith, ap, sym, ◌∙◌, rules}
use Rattle.std.proofs.lemmas.List.{drop_more}
use Rattle.gsm_alphabet.specs.Packing.{number_of}
use Rattle.gsm_alphabet.proofs.BitLemmas.{shifted, septet_out}
use Rattle.gsm_alphabet.proofs.packing.take_septet.Goals as goal

pub returns-clause-bits : goal.returns-clause-bits
returns-clause-bits c =
    let n = c.args.waiting.bits in
    let k = c.args.waiting.count in
    let at = c.args.next in
    let octets = c.args.packed.now in
    let rest = number_of 256 (drop (at + 1) octets) in
    let same : c.from.result ≡ get_or octets at 0 = search rules in
    let whole = shifted c.from.result k (omega (arith, c.type_inv.packed at)) (omega arith) in
    let split : drop at octets ≡ get_or octets at 0 ∷ drop (at + 1) octets = drop_more octets at 0 (c.requires (omega arith)) in
    rw whole (septet_out n c.from.result k rest ∙ ap (λ x. n + 2 ^ k * (x + 256 * rest)) same ∙ ap (λ l. n + 2 ^ k * number_of 256 l) (sym split))
