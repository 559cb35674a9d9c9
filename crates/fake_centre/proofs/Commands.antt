-- What a centre says are commands of SMPP.
use Rattle.std.proofs.Common.{◌≡◌, ℕ, ◌<◌, ◌≤◌, ◌^◌, List, [], ◌∷◌, ◌++◌, length, sym, ap, ◌∙◌, append_assoc, arith, length-append, length-take}
use Rattle.std.specs.List.{flat_map, AllByRecursion}
use Rattle.std.proofs.lemmas.List.{append-nil}
use Rattle.smpp_wire.specs.Command.{Fields, SubmitReply, Nothing, Command}
use Rattle.smpp_wire.specs.Grammar.{IsText, IsOf, body, IsCommand, frame, row_of}
use Rattle.smpp_wire.specs.Answers.{Tells}
use Rattle.smpp_wire.specs.declared.pdu.Pdu.{Pdu}
use Rattle.smpp_wire.specs.declared.frame.Frame.TheVariants.{Whole}
use Rattle.fake_centre.specs.Saying.{AreFrames, command_with}

-- one command more
all_more : (cs : List Command) (c : Command) → AllByRecursion IsCommand cs → IsCommand c → AllByRecursion IsCommand (cs ++ c ∷ [])
all_more [] c all good = (good, tt)
all_more (d ∷ cs) c all good = (all.0, all_more cs c all.1 good)

frames_append : (cs : List Command) (c : Command) → flat_map frame (cs ++ c ∷ []) ≡ flat_map frame cs ++ frame c
frames_append [] c = append-nil (frame c)
frames_append (d ∷ cs) c = ap (λ (t : List ℕ). frame d ++ t) (frames_append cs c) ∙ sym (append_assoc (frame d) (flat_map frame cs) (frame c))

-- frames, with one more behind them
pub frames_more : (octets : List ℕ) (c : Command) → AreFrames octets → IsCommand c → AreFrames (octets ++ frame c)
frames_more octets c frames good =
    (frames.0 ++ c ∷ [], all_more frames.0 c frames.1 good, ap (λ (t : List ℕ). t ++ frame c) frames.2 ∙ sym (frames_append frames.0 c))

-- a command with a short body is one
pub small : (id status sequence : ℕ) (fields : Fields) → id < 2 ^ 32 → status < 2 ^ 32 → sequence < 2 ^ 32 → IsOf (row_of id) fields → length (body fields) ≤ 1000
    → IsCommand (command_with id status sequence fields)
small id status sequence fields id_fits status_fits sequence_fits is short =
    record { id = id_fits; status = status_fits; sequence = sequence_fits; fields = is; len = omega (arith, short) }

-- one without a body
pub plain_good : (id status sequence : ℕ) → id < 2 ^ 32 → status < 2 ^ 32 → sequence < 2 ^ 32 → IsOf (row_of id) Nothing → IsCommand (command_with id status sequence Nothing)
plain_good id status sequence id_fits status_fits sequence_fits is = small id status sequence Nothing id_fits status_fits sequence_fits is (omega arith)

-- one that answers with an id
pub answer_good : (id : List ℕ) (sequence : ℕ) → sequence < 2 ^ 32 → IsText 65 id → IsCommand (command_with 2147483652 0 sequence (SubmitReply id))
answer_good id sequence fits text = small 2147483652 0 sequence (SubmitReply id) (omega arith) (omega arith) fits text (omega (arith, length-append id (0 ∷ []), text.1))

-- a frame at the front is no longer than what it stands in
pub whole_within : (octets : List ℕ) (pdu : Pdu) (len : ℕ) → Tells octets (Whole pdu len) → len ≤ length octets
whole_within octets pdu len told = omega (arith, length-take len octets, told.1, ap length told.2)
