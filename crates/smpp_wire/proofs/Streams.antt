-- The laws of frames: no frame is a proper front of another, what was written is read again, and the frames of a stream don't depend on how it is cut.
use Rattle.std.proofs.Common.{◌≡◌, ℕ, List, [], ◌∷◌, ◌++◌, refl, sym, ap, ◌∙◌, append_assoc}
use Rattle.std.specs.List.{flat_map, AllByRecursion}
use Rattle.std.proofs.lemmas.List.{append-nil}
use Rattle.exact_octets.specs.Fronts.{IsProperFront}
use Rattle.exact_octets.proofs.Fronts.{one_first}
use Rattle.smpp_wire.specs.declared.frame.Frame.{Frame}
use Rattle.smpp_wire.specs.Command.{Command}
use Rattle.smpp_wire.specs.Grammar.{IsCommand, frame, IsFrame}
use Rattle.smpp_wire.specs.Answers.{IsWhole, IsReadAs}
use Rattle.smpp_wire.specs.Stream.{HasNone, IsStream, AreHeard, joined}
use Rattle.smpp_wire.proofs.Frames.{frame_reads}

-- ---- frames

-- octets that begin with two frames begin with one
pub one_frame : (a b : Command) (x y : List ℕ) → IsCommand a → IsCommand b → frame a ++ x ≡ frame b ++ y → (a ≡ b) × (x ≡ y)
one_frame = one_first frame_reads

nothing_behind : (x y : List ℕ) → x ++ y ≡ [] → y ≡ []
nothing_behind [] y e = e
nothing_behind (a ∷ x) y e = absurd cc

-- where a frame stands at the front, the octets are no proper front of a frame
pub no_proper_front : (command : Command) (rest : List ℕ) → IsCommand command → IsProperFront IsFrame (frame command ++ rest) → ⊥
no_proper_front command rest good front =
    let whole = front.whole in
    let same = one_frame command whole.0 (rest ++ front.more) [] good whole.1 (sym (append_assoc (frame command) rest front.more) ∙ whole.2 ∙ sym (append-nil (frame whole.0))) in
    front.some (nothing_behind rest front.more same.1)

-- what was written is read again, whatever follows
pub written_is_read : (command : Command) (rest : List ℕ) (answer : Frame) → IsCommand command → IsReadAs (frame command ++ rest) answer → IsWhole command answer
written_is_read command rest answer good r = r.whole command rest good refl

-- ---- streams

-- a stream has its frames in one way
pub one_stream : (octets : List ℕ) (commands commands' : List Command) (rest rest' : List ℕ) → IsStream octets commands rest → IsStream octets commands' rest' → (commands ≡ commands') × (rest ≡ rest')
one_stream octets commands commands' rest rest' s s' = same commands commands' s.good s'.good (sym s.parts ∙ s'.parts)
  where
    same : (cs cs' : List Command) → AllByRecursion IsCommand cs → AllByRecursion IsCommand cs' → flat_map frame cs ++ rest ≡ flat_map frame cs' ++ rest' → (cs ≡ cs') × (rest ≡ rest')
    same [] [] good good' e = (refl, e)
    same [] (c ∷ cs') good good' e = absurd (s.none c (flat_map frame cs' ++ rest') good'.0 (e ∙ append_assoc (frame c) (flat_map frame cs') rest'))
    same (c ∷ cs) [] good good' e = absurd (s'.none c (flat_map frame cs ++ rest) good.0 (sym e ∙ append_assoc (frame c) (flat_map frame cs) rest))
    same (c ∷ cs) (c' ∷ cs') good good' e =
        let one = one_frame c c' (flat_map frame cs ++ rest) (flat_map frame cs' ++ rest') good.0 good'.0 (sym (append_assoc (frame c) (flat_map frame cs) rest) ∙ e ∙ append_assoc (frame c') (flat_map frame cs') rest') in
        let more = same cs cs' good.1 good'.1 one.1 in
        (ap (λ (d : Command). d ∷ cs) one.0 ∙ ap (λ (ds : List Command). c' ∷ ds) more.0, more.1)

all_append : (cs ds : List Command) → AllByRecursion IsCommand cs → AllByRecursion IsCommand ds → AllByRecursion IsCommand (cs ++ ds)
all_append [] ds p q = q
all_append (c ∷ cs) ds p q = (p.0, all_append cs ds p.1 q)

frames_append : (cs ds : List Command) → flat_map frame (cs ++ ds) ≡ flat_map frame cs ++ flat_map frame ds
frames_append [] ds = refl
frames_append (c ∷ cs) ds = ap (λ (t : List ℕ). frame c ++ t) (frames_append cs ds) ∙ sym (append_assoc (frame c) (flat_map frame cs) (flat_map frame ds))

-- what is heard later is read behind what is kept
pub stream_more : (octets more : List ℕ) (here later : List Command) (kept rest : List ℕ) → IsStream octets here kept → IsStream (kept ++ more) later rest → IsStream (octets ++ more) (here ++ later) rest
stream_more octets more here later kept rest s s' = record {
  good = all_append here later s.good s'.good;
  parts =
      ap (λ (t : List ℕ). t ++ more) s.parts ∙ append_assoc (flat_map frame here) kept more ∙ ap (λ (t : List ℕ). flat_map frame here ++ t) s'.parts
      ∙ sym (append_assoc (flat_map frame here) (flat_map frame later) rest) ∙ ap (λ (t : List ℕ). t ++ rest) (sym (frames_append here later));
  none = s'.none;
}

append_nil : (cs : List Command) → cs ++ [] ≡ cs
append_nil [] = refl
append_nil (c ∷ cs) = ap (λ (ds : List Command). c ∷ ds) (append_nil cs)

commands_assoc : (a b c : List Command) → (a ++ b) ++ c ≡ a ++ (b ++ c)
commands_assoc [] b c = refl
commands_assoc (x ∷ a) b c = ap (λ (t : List Command). x ∷ t) (commands_assoc a b c)

-- pieces hold the frames of their octets
heard_behind : (pieces : List (List ℕ)) (octets kept : List ℕ) (before commands : List Command) (rest : List ℕ) → IsStream octets before kept → AreHeard kept pieces commands rest → IsStream (octets ++ joined pieces) (before ++ commands) rest
heard_behind [] octets kept before commands rest s heard = record {
  good = all_append before commands s.good (rw heard.0 tt);
  parts = append-nil octets ∙ s.parts ∙ ap (λ (t : List ℕ). flat_map frame before ++ t) (sym heard.1) ∙ ap (λ (cs : List Command). flat_map frame cs ++ rest) (sym (append_nil before) ∙ ap (λ (cs : List Command). before ++ cs) (sym heard.0));
  none = rw heard.1 s.none;
}
heard_behind (piece ∷ pieces) octets kept before commands rest s heard =
    let s' = stream_more octets piece before heard.0 kept heard.2 s heard.3 in
    let all = heard_behind pieces (octets ++ piece) heard.2 (before ++ heard.0) heard.1 rest s' heard.4 in
    record {
      good = rw (heard.5, ← commands_assoc before heard.0 heard.1) all.good;
      parts = sym (append_assoc octets piece (joined pieces)) ∙ all.parts ∙ ap (λ (cs : List Command). flat_map frame cs ++ rest) (commands_assoc before heard.0 heard.1 ∙ ap (λ (cs : List Command). before ++ cs) (sym heard.5));
      none = all.none;
    }

no_frame_in_nothing : HasNone []
no_frame_in_nothing command behind good e = absurd cc

-- the frames of a stream don't depend on how it is cut
pub heard_in_pieces : (pieces : List (List ℕ)) (commands : List Command) (rest : List ℕ) → AreHeard [] pieces commands rest → IsStream (joined pieces) commands rest
heard_in_pieces pieces commands rest heard = heard_behind pieces [] [] [] commands rest (record { good = tt; parts = refl; none = no_frame_in_nothing }) heard

pub one_hearing : (pieces pieces' : List (List ℕ)) (commands commands' : List Command) (rest rest' : List ℕ) → joined pieces ≡ joined pieces' → AreHeard [] pieces commands rest → AreHeard [] pieces' commands' rest' → (commands ≡ commands') × (rest ≡ rest')
one_hearing pieces pieces' commands commands' rest rest' same heard heard' =
    let s = heard_in_pieces pieces commands rest heard in
    one_stream (joined pieces') commands commands' rest rest' (record { good = s.good; parts = sym same ∙ s.parts; none = s.none }) (heard_in_pieces pieces' commands' rest' heard')
