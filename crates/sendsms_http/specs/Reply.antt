-- What a store's outcome says over HTTP.
use Rattle.std.specs.Prelude.{Bool, true, false, Result, Ok, Err}
use Rattle.http_text.specs.declared.answer.Answer.{Answer}
use Rattle.http_text.specs.declared.answer.Answer.TheVariants as answer_is
use Rattle.gate_model.specs.declared.reply.Reply.{Reply}
use Rattle.gate_model.specs.declared.reply.Reply.TheVariants.{Accepted, Noted}
use Rattle.gate_model.specs.declared.reply.Refusal.{Refusal}
use Rattle.gate_model.specs.declared.reply.Refusal.TheVariants.{NoRoute, Full, Disk, Memory}

-- the answer where messages were accepted, by whether they have to wait for a link
abbrev pub accepted_answer : Bool → Answer
accepted_answer true = answer_is.Queued
accepted_answer false = answer_is.Accepted

-- The answer to a request whose messages a store answered so. A store that was handed messages answers no Noted.
abbrev pub answer_of : Result Reply Refusal → Answer
answer_of (Ok (Accepted first count queued)) = accepted_answer queued
answer_of (Ok (Noted matched)) = answer_is.Unavailable
answer_of (Err (NoRoute part)) = answer_is.NotRoutable
answer_of (Err (Full held limit)) = answer_is.Unavailable
answer_of (Err Disk) = answer_is.Unavailable
answer_of (Err Memory) = answer_is.OutOfMemory
