use Rattle.std.proofs.Common.{◌≡◌, take}
use Rattle.sendsms_form.specs.Messages.{to_each}
use Rattle.sendsms_form.proofs.outgoing.to_each.Given as goal

-- the parts to the receivers so far
abbrev pub invariant-loop-receiver : goal.invariant-loop-receiver
invariant-loop-receiver l = l.messages ≡ to_each l.fn.form l.now (take l.receiver-index l.fn.form.receivers) l.parts
