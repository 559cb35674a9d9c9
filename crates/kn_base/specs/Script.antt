-- The script of a peer in memory: what its calls are to answer, and what they answer by it.
use Rattle.std.specs.Prelude.{◌≡◌, ◌≢◌, ◌⊎◌, ℕ, min, List, [], ◌∷◌, ◌++◌, length, drop}
use Rattle.kn_base.specs.Count.{Counts, next_count}
use Rattle.kn_base.specs.Calls.{Calls, IsFailing, one_more}
use Rattle.kn_base.specs.declared.mem_take.MemTake.{MemTake}
use Rattle.kn_base.specs.declared.mem_take.MemTake.TheVariants.{Bytes, Quiet}
use Rattle.kn_base.specs.declared.source.Take.{Take}
use Rattle.kn_base.specs.declared.source.Take.TheVariants as take_is
use Rattle.kn_base.specs.declared.sink.Give.{Give}
use Rattle.kn_base.specs.declared.sink.Give.TheVariants as give_is

-- the answers of takes that are still to come, none of them without octets, and the calls with those that are to fail
pub record Script : Type 0 where
  pub answers : List MemTake
  pub calls : Calls

-- the octets of all answers that have some, in their order
abbrev pub octets_of : List MemTake → List ℕ
octets_of [] = []
octets_of (Bytes octets ∷ answers) = octets ++ octets_of answers
octets_of (Quiet ∷ answers) = octets_of answers

-- an answer with these octets in front, unless there are none
abbrev pub with_octets : List ℕ → List MemTake → List MemTake
with_octets [] answers = answers
with_octets (octet ∷ octets) answers = Bytes (octet ∷ octets) ∷ answers

-- the answers but those without octets, which are passed over
abbrev pub some_answers : List MemTake → List MemTake
some_answers [] = []
some_answers (Bytes octets ∷ answers) = with_octets octets (some_answers answers)
some_answers (Quiet ∷ answers) = Quiet ∷ some_answers answers

-- the script after one call more, with these answers left
abbrev pub after_call : Script → List MemTake → Script
after_call old answers = record { answers = answers; calls = one_more old.calls }

-- The call is one of those that are to fail: one fault was counted, and nothing was used up.
pub record IsFault (old new : Script) (before after : Counts) : Type 0 where
  pub fails : IsFailing old.calls
  pub script : new ≡ after_call old old.answers
  pub counts : after ≡ record before { faults = next_count before.faults }

-- The call isn't one of those, but there was no memory for it: that was counted once, and nothing was used up.
pub record IsWant (old new : Script) (before after : Counts) : Type 0 where
  pub goes : ¬ IsFailing old.calls
  pub script : new ≡ after_call old old.answers
  pub counts : after ≡ record before { starved = next_count before.starved }

-- The next answer was used up, and counted once: it is a quiet.
pub record IsNextQuiet (old new : Script) (before after : Counts) : Type 0 where
  pub goes : ¬ IsFailing old.calls
  pub rest : List MemTake
  pub next : old.answers ≡ Quiet ∷ rest
  pub script : new ≡ after_call old rest
  pub counts : after ≡ record before { quiets = next_count before.quiets }

-- As many octets of the next answer were used up as it has and there is room for.
pub record IsNextOctets (room n : ℕ) (old new : Script) : Type 0 where
  pub goes : ¬ IsFailing old.calls
  pub octets : List ℕ
  pub rest : List MemTake
  pub next : old.answers ≡ Bytes octets ∷ rest
  pub count : n ≡ min room (length octets)
  pub script : new ≡ after_call old (with_octets (drop n octets) rest)

-- the next answer has octets, which take memory
abbrev pub AreOctetsNext : List MemTake → Type 0
AreOctetsNext [] = ⊥
AreOctetsNext (Bytes octets ∷ answers) = Unit {0}
AreOctetsNext (Quiet ∷ answers) = ⊥

-- what a take answers with room for so many octets: without answers left it is End, whether it is to fail or not
abbrev pub AnswersTake : ℕ → Take → Script → Script → Counts → Counts → Type 0
AnswersTake room (take_is.Bytes n) old new before after = IsNextOctets room n old new
AnswersTake room take_is.End old new before after = (old.answers ≡ []) × (new ≡ after_call old [])
AnswersTake room take_is.Quiet old new before after = IsNextQuiet old new before after
AnswersTake room take_is.Failed old new before after = (old.answers ≢ [] × IsFault old new before after) ⊎ (AreOctetsNext old.answers × IsWant old new before after)

-- what a give answers: it takes all octets, unless it fails
abbrev pub AnswersGive : List ℕ → Give → Script → Script → Counts → Counts → Type 0
AnswersGive octets (give_is.Took n) old new before after = (¬ IsFailing old.calls) × (n ≡ length octets) × (new ≡ after_call old old.answers)
AnswersGive octets give_is.Failed old new before after = IsFault old new before after ⊎ IsWant old new before after
