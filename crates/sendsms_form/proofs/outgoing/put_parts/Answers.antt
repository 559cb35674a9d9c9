use Rattle.std.proofs.Common.{[], ◌∷◌, ◌++◌, ◌∙◌, ap}
use Rattle.sms_record.specs.declared.sms.Sms.{Sms}
use Rattle.sendsms_form.specs.Messages.{message}
use Rattle.sendsms_form.proofs.Lists.{one_more}
use Rattle.sendsms_form.proofs.outgoing.put_parts.Goals as goal

pub loop-part-preserved : goal.loop-part-preserved
loop-part-preserved c =
    one_more (message c.args.form.now c.args.now c.args.receiver.now) c.args.messages.now c.loop-part.messages c.push.new.self c.args.parts.now c.loop-part.part-index _ c.loop-part-test.true c.part-item.is
    c.loop-part.invariant (c.in_ok-push.ensures.ok ∙ ap (λ (sms : Sms). c.loop-part.messages ++ sms ∷ []) c.in_ok-message.ensures)
