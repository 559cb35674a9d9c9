use Rattle.std.proofs.Common.{rules, not}
use Rattle.std.proofs.lemmas.Fn.{filter_same}
use Rattle.link_turn.specs.Back.{has_tag}
use Rattle.link_turn.proofs.session.handling.remove_tag.Goals as goal

pub returns : goal.returns
returns c = filter_same _ (λ submitted. not (has_tag c.args.tag submitted)) _ (λ x b f' k. search rules) _ _ c.retain.ensures.filtered
