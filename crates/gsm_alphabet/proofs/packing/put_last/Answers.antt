use Rattle.std.proofs.Common.{◌≡◌, ℕ, ◌+◌, ◌-◌, ◌*◌, ◌/◌, ◌^◌, ◌<◌, ◌≤◌, List, [], ◌∷◌, ◌++◌, length, append-nil, arith, ap, refl, sym, ◌∙◌}
use Rattle.std.proofs.Math.Nat.{pow-le-pow_right}
use Rattle.std.proofs.lemmas.Result.{on_ok_weaker}
use Rattle.gsm_alphabet.specs.Packing.{lowest_digits}
use Rattle.gsm_alphabet.proofs.DigitLemmas.{lowest_digits-more}
use Rattle.gsm_alphabet.proofs.packing.put_last.Goals as goal

none_left : (octets : List ℕ) (c k m : ℕ) → c ≡ 0 → k ≡ length octets + (c + 7) / 8 → octets ≡ octets ++ lowest_digits 256 (k - length octets) m
none_left octets c k m none e =
    let all : 0 ≡ k - length octets = omega arith in
    sym (append-nil octets) ∙ ap (λ j. octets ++ lowest_digits 256 j m) all

one_left : (octets : List ℕ) (c k n m : ℕ) → 0 < c → c < 8 → n < 2 ^ c → k ≡ length octets + (c + 7) / 8 → m ≡ n + 2 ^ c * 0
    → octets ++ n ∷ [] ≡ octets ++ lowest_digits 256 (k - length octets) m
one_left octets c k n m some few fit e value =
    let one : 1 ≡ k - length octets = omega arith in
    let wide : 2 ^ c ≤ 2 ^ 8 = pow-le-pow_right {n = 2} (omega arith) {i = c} {j = 8} (omega arith) in
    let same : m ≡ n + 256 * 0 = omega arith in
    ap (λ l. octets ++ l) (sym (ap (lowest_digits 256 1) same ∙ lowest_digits-more 256 0 n 0 (omega arith)))
    ∙ ap (λ j. octets ++ lowest_digits 256 j m) one

pub returns-then-waiting-eq0 : goal.returns-then-waiting-eq0
returns-then-waiting-eq0 c = none_left c.args.octets.now c.args.waiting.count _ _ c.if-waiting-eq0.true refl

pub returns : goal.returns
returns c = on_ok_weaker c.push.result
    (λ pushed. pushed ∙ one_left c.args.octets.now c.args.waiting.count _ c.args.waiting.bits _ (omega arith) (omega arith) (omega arith) refl refl)
    c.push.ensures.ok
