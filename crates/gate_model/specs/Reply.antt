-- What a store answers to messages that it was handed.
use Rattle.std.specs.Prelude.{⊤}
use Rattle.gate_model.specs.declared.reply.Reply.{Reply}
use Rattle.gate_model.specs.declared.reply.Reply.TheVariants.{Accepted, Noted}

-- the reply says that messages were accepted
abbrev pub IsAccepted : Reply → Type 0
IsAccepted (Accepted first count queued) = ⊤
IsAccepted (Noted matched) = ⊥
