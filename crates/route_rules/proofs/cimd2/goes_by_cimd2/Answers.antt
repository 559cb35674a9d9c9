use Rattle.std.proofs.Common.{◌∙◌, sym, refl, false, ◌≡◌}
use Rattle.route_rules.specs.Carriage.{is_plain_text}
use Rattle.route_rules.proofs.Septets.{fits-as_ucs2}
use Rattle.route_rules.proofs.cimd2.goes_by_cimd2.Goals as goal

pub returns-else-is_plain_text : goal.returns-else-is_plain_text
returns-else-is_plain_text c =
    let other : is_plain_text c.args.body.now ≡ false = sym c.is_plain_text.ensures ∙ c.if-is_plain_text.false in
    fits-as_ucs2 c.args.body.now c.args.header c.characters_len.result c.requires c.characters_len.ensures.value ∙ rw (c.in-Seven.is, other) refl
