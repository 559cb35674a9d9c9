-- The bits that wait, with a septet or an octet put behind them. The count of the bits is c, the number of the bits is n.
use Rattle.std.proofs.Common.{◌≡◌, ℕ, suc, ◌+◌, ◌-◌, ◌*◌, ◌/◌, ◌%◌, ◌^◌, ◌<◌, ◌≤◌, ap, ◌∙◌, arith}
use Rattle.std.proofs.Math.Nat.{pow-suc, mul-le-mul_right}
use Rattle.std.proofs.lemmas.Nat.{div_below, div-add-mod', shl_whole}

-- an amount of fewer than eight bits, shifted behind fewer than eight, is not cut off at sixteen
pub shifted : (x c : ℕ) → x < 2 ^ 8 → c < 8 → (x * 2 ^ c) % 65536 ≡ x * 2 ^ c
shifted x c small few = shl_whole x 8 c 16 small (omega arith)

-- x with w bits, behind c bits, leaves fewer than the power of both
pub behind_fits : (n x c w : ℕ) → n < 2 ^ c → x < 2 ^ w → n + x * 2 ^ c < 2 ^ w * 2 ^ c
behind_fits n x c w fit small =
    let most : (x + 1) * 2 ^ c ≤ 2 ^ w * 2 ^ c = mul-le-mul_right (2 ^ c) (omega arith) in
    omega arith

-- what is left of a septet behind one bit or more, once an octet is out
pub after_octet_fits : (n x c : ℕ) → 0 < c → n < 2 ^ c → x < 128 → (n + x * 2 ^ c) / 256 < 2 ^ (c - 1)
after_octet_fits n x c some fit small =
    let k = c - 1 in
    let e : c ≡ suc k = omega arith in
    let double : 2 ^ c ≡ 2 ^ k * 2 = ap (λ j. 2 ^ j) e ∙ pow-suc 2 k in
    let all : n + x * 2 ^ c < 128 * 2 ^ c = behind_fits n x c 7 fit small in
    div_below (n + x * 2 ^ c) 256 (2 ^ k) (omega arith) (omega arith)

-- an octet, and the bits that wait behind it, are the bits that waited and the septet
pub octet_out : (n x c rest : ℕ) → 0 < c
    → (n + x * 2 ^ c) % 256 + 256 * ((n + x * 2 ^ c) / 256 + 2 ^ (c - 1) * rest) ≡ n + 2 ^ c * (x + 128 * rest)
octet_out n x c rest some =
    let k = c - 1 in
    let e : c ≡ suc k = omega arith in
    let double : 2 ^ c ≡ 2 ^ k * 2 = ap (λ j. 2 ^ j) e ∙ pow-suc 2 k in
    let split = div-add-mod' (n + x * 2 ^ c) 256 in
    let high : 2 ^ c * rest ≡ 2 ^ k * 2 * rest = ap (λ p. p * rest) double in
    omega arith

-- what is left of an octet behind fewer than seven bits, once a septet is out
pub after_septet_fits : (n x c : ℕ) → n < 2 ^ c → x < 256 → (n + x * 2 ^ c) / 128 < 2 ^ (c + 1)
after_septet_fits n x c fit small =
    let double : 2 ^ (c + 1) ≡ 2 ^ c * 2 = ap (λ j. 2 ^ j) (omega arith) ∙ pow-suc 2 c in
    let all : n + x * 2 ^ c < 256 * 2 ^ c = behind_fits n x c 8 fit small in
    div_below (n + x * 2 ^ c) 128 (2 ^ (c + 1)) (omega arith) (omega arith)

-- a septet, and the bits that wait behind it, are the bits that waited and the octet
pub septet_out : (n x c rest : ℕ)
    → (n + x * 2 ^ c) % 128 + 128 * ((n + x * 2 ^ c) / 128 + 2 ^ (c + 1) * rest) ≡ n + 2 ^ c * (x + 256 * rest)
septet_out n x c rest =
    let double : 2 ^ (c + 1) ≡ 2 ^ c * 2 = ap (λ j. 2 ^ j) (omega arith) ∙ pow-suc 2 c in
    let split = div-add-mod' (n + x * 2 ^ c) 128 in
    let high : 2 ^ (c + 1) * rest ≡ 2 ^ c * 2 * rest = ap (λ p. p * rest) double in
    omega arith
