use Rattle.std.proofs.Common.{◌++◌, flat_map, ap, ◌∙◌, arith}
use Rattle.std.proofs.lemmas.List.{take_all}
use Rattle.std.specs.Int.{w16, to_be_bytes}
use Rattle.gsm_alphabet.specs.Ucs2.{ucs2_of}
use Rattle.gsm_alphabet.proofs.ucs2.push_units.Goals as goal

pub returns : goal.returns
unfolding ucs2_of
returns c =
    let units = c.encode_utf16.result.now in
    c.loop-unit.invariant
    ∙ ap (λ l. c.args.octets.now ++ flat_map (to_be_bytes w16) l) (take_all c.loop-unit.unit-index units (omega arith) ∙ c.encode_utf16.ensures.value)
