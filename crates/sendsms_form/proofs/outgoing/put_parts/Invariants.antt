use Rattle.std.proofs.Common.{◌≡◌, ◌++◌, map, take}
use Rattle.sendsms_form.specs.Messages.{message}
use Rattle.sendsms_form.proofs.outgoing.put_parts.Given as goal

-- the parts so far
abbrev pub invariant-loop-part : goal.invariant-loop-part
invariant-loop-part l = l.messages ≡ l.fn.messages ++ map (message l.form l.now l.receiver) (take l.part-index l.parts)
