use Rattle.std.proofs.Common.{◌∙◌, ◌<◌, List, ap, get_or, length, map, subst}
use Rattle.sms_record.specs.declared.address.Address.{Address}
use Rattle.sendsms_form.specs.Messages.{message}
use Rattle.sendsms_form.proofs.Lists.{several_more}
use Rattle.sendsms_form.proofs.outgoing.to_each.Goals as goal

pub loop-receiver-preserved : goal.loop-receiver-preserved
loop-receiver-preserved c =
    let is = c.as_slice-receiver-items.ensures in
    let i = c.loop-receiver.receiver-index in
    several_more (λ receiver. map (message c.args.form c.args.now receiver) c.args.parts.now) c.loop-receiver.messages c.put_parts.new.messages c.args.form.receivers i _
    (subst (λ (xs : List Address). i < length xs) is c.loop-receiver-test.true)
    (c.receiver-item.is ∙ ap (λ (xs : List Address). get_or xs i c.receiver-item.result) is) c.loop-receiver.invariant c.in_ok-put_parts.ensures
