use Rattle.std.proofs.Common.{ap, ◌∙◌}
use Rattle.http_text.proofs.Whole.{whole_head}
use Rattle.sendsms_http.specs.declared.visit.Phase.TheVariants.{Submitting}
use Rattle.sendsms_http.specs.declared.visit.Visit.{Visit}
use Rattle.sendsms_http.proofs.Heads.{asks, owes_refused_so, says_owed}
use Rattle.sendsms_http.proofs.visit.Visit.ask.Goals as goal

pub drop_front-requires : goal.drop_front-requires
drop_front-requires c = (whole_head c.args.self.now.kept c.args.head.now c.args.len c.requires.whole).1

pub returns-in-Ok-clause-looks : goal.returns-in-Ok-clause-looks
returns-in-Ok-clause-looks c =
    asks c.args.settings.now c.args.now c.args.len c.args.self.now.kept c.args.head.now _ c.in-Ok.parts.items
    (whole_head c.args.self.now.kept c.args.head.now c.args.len c.requires.whole).0 (ap (λ (v : Visit). v.kept) c.drop_front.ensures)
    (ap Submitting c.is_last-close.ensures) c.in-Ok.ensures.parts c.in-Ok.ensures.handed

pub returns-in-Err-clause-looks : goal.returns-in-Err-clause-looks
returns-in-Err-clause-looks c =
    says_owed c.args.settings.now c.args.now c.args.self.now.kept c.say.new.self c.say.result c.in-Err.answer c.closes.result c.say.ensures.said
    (owes_refused_so c.args.settings.now c.args.now c.args.len c.args.self.now.kept c.args.head.now c.say.new.self c.in-Err.answer c.is_last-close.result c.closes.result
    (whole_head c.args.self.now.kept c.args.head.now c.args.len c.requires.whole).0
    (ap (λ (v : Visit). v.kept) c.say.ensures.same ∙ ap (λ (v : Visit). v.kept) c.drop_front.ensures) c.is_last-close.ensures c.closes.ensures c.in-Err.ensures.refusal)
