use Rattle.std.proofs.Common.{◌+◌, ◌*◌, ◌≤◌, ◌++◌, [], ◌∷◌, drop, length, sym, ap, ◌∙◌, append_assoc, append-nil, length-drop, arith}
use Rattle.gsm_alphabet.specs.Ucs2.{units_of}
use Rattle.gsm_alphabet.proofs.Ucs2Lemmas.{units_of-drop, units_of-short}
use Rattle.gsm_alphabet.proofs.charset_text.units_of.Goals as goal

pub loop-i-preserved : goal.loop-i-preserved
loop-i-preserved c =
    let xs = c.args.octets.now in
    let i = c.loop-i.i in
    let before = c.loop-i.units.items in
    let unit = c.from_be_bytes.result in
    let rest = units_of (drop (2 * (i + 1)) xs) in
    let split = units_of-drop xs i (omega arith) in
    ap (λ l. l ++ rest) c.in_ok-push.ensures.items
    ∙ append_assoc before (unit ∷ []) rest
    ∙ ap (λ u. before ++ (u ∷ rest)) c.from_be_bytes.ensures
    ∙ ap (λ l. before ++ l) (sym split)
    ∙ c.loop-i.invariant

pub returns : goal.returns
returns c =
    let xs = c.args.octets.now in
    let before = c.loop-i.units.items in
    let short : length (drop (2 * c.loop-i.i) xs) ≤ 1 = omega (arith, length-drop (2 * c.loop-i.i) xs) in
    sym (append-nil before) ∙ ap (λ l. before ++ l) (sym (units_of-short _ short)) ∙ c.loop-i.invariant
