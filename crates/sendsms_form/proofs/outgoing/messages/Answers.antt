use Rattle.std.proofs.Common.{◌≡◌, ◌∙◌, List, All, ap, subst, sym}
use Rattle.gate_model.specs.Acceptor.{MayBeHanded}
use Rattle.sms_record.specs.declared.sms.Sms.{Sms}
use Rattle.sendsms_form.specs.Messages.{to_each}
use Rattle.sendsms_form.proofs.Handed.{parts_handed, parts_timed}
use Rattle.sendsms_form.proofs.outgoing.messages.Goals as goal

pub returns-clause-handed : goal.returns-clause-handed
returns-clause-handed c =
    subst (λ (xs : List Sms). MayBeHanded xs c.args.now) (sym (c.in_ok-to_each.ensures ∙ ap (to_each c.args.form c.args.now c.args.form.receivers) c.as_slice.ensures.value))
    (parts_handed c.args.user.now c.args.form c.args.now c.requires.in_range c.requires.form c.requires.in_time c.in_ok-parts.parts.items c.in_ok-parts.ensures.each)

pub returns-clause-timed : goal.returns-clause-timed
returns-clause-timed c =
    subst (λ (xs : List Sms). All (λ sms. sms.time ≡ c.args.now) xs) (sym (c.in_ok-to_each.ensures ∙ ap (to_each c.args.form c.args.now c.args.form.receivers) c.as_slice.ensures.value))
    (parts_timed c.args.form c.args.now c.args.form.receivers c.in_ok-parts.parts.items)
