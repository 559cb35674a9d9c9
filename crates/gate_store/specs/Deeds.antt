-- What the calls of a store do, by their outcome.
use Rattle.std.specs.Prelude.{◌≡◌, ◌⊎◌, ℕ, ◌≤◌, ◌+◌, Bool, true, false, List, [], ◌∷◌, ◌++◌, ⊤, Option, Some, None, Result, Ok, Err, is_ok, not, if◌then◌else◌}
use Rattle.std.specs.Bool.{OnTrue}
use Rattle.std.proofs.Common.{subst}
use Rattle.kn_base.specs.Count.{Rose}
use Rattle.kn_base.specs.declared.memory.Memory.{Memory as WantOfMemory}
use Rattle.gate_entries.specs.declared.cause.Cause.TheVariants.{Expired}
use Rattle.gate_entries.specs.declared.passing.Passing.{Passing}
use Rattle.gate_entries.specs.declared.passing.Passing.TheVariants.{Took, TookArrival, TookJob}
use Rattle.gate_entries.specs.declared.recorded.Recorded.{Recorded}
use Rattle.gate_entries.specs.declared.recorded.Recorded.TheVariants as entry
use Rattle.gate_model.specs.Acceptor.{Deed}
use Rattle.gate_model.specs.Fold.{does, passes, recorded, sms_of}
use Rattle.gate_model.specs.Gate.{arrival_of, id_of, url_of, returns_of}
use Rattle.gate_model.specs.Lawful.{refusal, is_expired}
use Rattle.gate_model.specs.Replies.{reply_to}
use Rattle.gate_model.specs.Routing.{next, next_arrival, next_job}
use Rattle.gate_model.specs.Settling.{settle}
use Rattle.gate_model.specs.State.{State}
use Rattle.gate_model.specs.declared.reply.Refusal.{Refusal}
use Rattle.gate_model.specs.declared.reply.Refusal.TheVariants.{NoRoute, Full, Disk, Memory}
use Rattle.gate_model.specs.declared.reply.Reply.{Reply}
use Rattle.route_rules.specs.declared.rules.Rules.{Rules}
use Rattle.sms_record.specs.declared.sms.Sms.{Sms}
use Rattle.store_disk.specs.Meaning.{Meaning}
use Rattle.store_disk.specs.Story.{LeavesOnly}
use Rattle.gate_store.specs.Reopening.{MayReopenIn}
use Rattle.gate_store.specs.Store.{IsStore, disk_in, birth_in, rules_in, state_in, unsure_in}
use Rattle.gate_store.specs.declared.store.Store.{Store}
use Rattle.gate_store.specs.declared.taken.Taken.{Taken}
use Rattle.gate_store.specs.declared.taken.Taken.TheVariants as taken

-- the disk failed
abbrev pub is_disk : Refusal → Bool
is_disk (NoRoute part) = false
is_disk (Full held limit) = false
is_disk Disk = true
is_disk Memory = false

-- the outcome is a refusal because the disk failed
abbrev pub is_by_disk : {T : Type 0} → Result T Refusal → Bool
is_by_disk (Ok x) = false
is_by_disk (Err refusal) = is_disk refusal

-- the outcome is a refusal before the disk was asked
abbrev pub is_untried : {T : Type 0} → Result T Refusal → Bool
is_untried (Ok x) = false
is_untried (Err refusal) = not (is_disk refusal)

-- the most disk calls that taking back what is unsure needs
abbrev pub repair_calls : (unsure : Option Recorded) → ℕ
repair_calls None = 0
repair_calls (Some kept) = 2

-- the most disk calls of an entry: none where it is refused before the disk is asked, and else four, and two more where one was unsure
abbrev pub most_calls : {T : Type 0} → (unsure : Option Recorded) → Result T Refusal → ℕ
most_calls unsure outcome = if is_untried outcome then 0 else repair_calls unsure + 4

-- What an outcome says of an entry that was handed to a store under rules, in a state. It isn't refused, and the reply is the model's;
-- or the disk failed, or memory was wanting. Or there is no route, or no room.
abbrev pub IsReason : Rules → State → Recorded → Result Reply Refusal → Type 0
IsReason rules state kept (Ok reply) = (refusal rules state kept ≡ None) × (reply ≡ reply_to rules state kept)
IsReason rules state kept (Err (NoRoute part)) = refusal rules state kept ≡ Some (NoRoute part)
IsReason rules state kept (Err (Full held limit)) = refusal rules state kept ≡ Some (Full held limit)
IsReason rules state kept (Err Disk) = refusal rules state kept ≡ None
IsReason rules state kept (Err Memory) = refusal rules state kept ≡ None

-- the entry that a deed asks for
abbrev pub entry_of : Deed → Recorded
entry_of deed = entry.Accept (record { time = deed.time; parts = deed.parts })

-- what an outcome puts behind other entries
abbrev pub put_behind : Recorded → Result Reply Refusal → List Recorded
put_behind kept outcome = if is_ok outcome then kept ∷ [] else []

-- the same of a deed
abbrev pub entries_of : Deed → List Recorded
entries_of deed = put_behind (entry_of deed) deed.outcome

-- the entries of the deeds that were done, in their order
abbrev pub done_of : List Deed → List Recorded
done_of [] = []
done_of (deed ∷ deeds) = entries_of deed ++ done_of deeds

-- what an entry does, where its outcome is a reply
abbrev pub state_behind : (birth : ℕ) → State → Recorded → Result Reply Refusal → State
state_behind birth state kept outcome = if is_ok outcome then does birth state (recorded kept) else state

-- each outcome has its reason in the state before it
abbrev pub AreReasoned : (birth : ℕ) → Rules → State → List Deed → Type 0
AreReasoned birth rules state [] = ⊤
AreReasoned birth rules state (deed ∷ deeds) =
    IsReason rules state (entry_of deed) deed.outcome × AreReasoned birth rules (state_behind birth state (entry_of deed) deed.outcome) deeds

-- where the disk failed, its count of faults rose, and else it stands still
abbrev pub CountsFault : Bool → ℕ → ℕ → Type 0
CountsFault true before now = Rose before now × (before ≤ now)
CountsFault false before now = now ≡ before

-- what may be unsure behind an outcome: nothing behind a reply; where the disk failed, what was before, or nothing, or the entry of this call; and
-- behind another refusal what was before
abbrev pub LeavesUnsure : Option Recorded → Recorded → Result Reply Refusal → Option Recorded → Type 0
LeavesUnsure before kept (Ok reply) now = now ≡ None
LeavesUnsure before kept (Err Disk) now = (now ≡ before) ⊎ (now ≡ None) ⊎ (now ≡ Some kept)
LeavesUnsure before kept (Err refusal) now = now ≡ before

-- what may be unsure behind deeds, by each of them
abbrev pub MayBeUnsure : Option Recorded → List Deed → Option Recorded → Type 0
MayBeUnsure before [] now = now ≡ before
MayBeUnsure before (deed ∷ deeds) now = (between : Option Recorded) × LeavesUnsure before (entry_of deed) deed.outcome between × MayBeUnsure between deeds now

module _ {D : Type 0} (meaning : Meaning D) where
  -- One entry on a store. Where it was done its state is what the entry makes of it, also of what is left of it when the store is opened
  -- again, and the entry stands last, and else both are as they
  -- were. Where it was refused before the disk was asked, the disk is as it was. Whenever it stopped, its areas reopen to the state before, or to that with the entry that was unsure, or to that with this entry.
  pub record Performs (old : Store D) (kept : Recorded) (outcome : Result Reply Refusal) (new : Store D) : Type 0 where
    pub reason : IsReason (rules_in old) (state_in old) kept outcome
    pub ruled : rules_in new ≡ rules_in old
    pub born : birth_in new ≡ birth_in old
    pub state : state_in new ≡ state_behind (birth_in old) (state_in old) kept outcome
    pub unsure : LeavesUnsure (unsure_in old) kept outcome (unsure_in new)
    pub holds : (birth : ℕ) (entries : List Recorded) → IsStore meaning old birth entries
        → IsStore meaning new birth (entries ++ put_behind kept outcome)
    pub stops : OnTrue meaning.tells (LeavesOnly (meaning.story (disk_in old)) (meaning.story (disk_in new)) (MayReopenIn (birth_in old) (rules_in old) (state_in old) (unsure_in old) kept))
    pub counted : CountsFault (is_by_disk outcome) (meaning.faults (disk_in old)) (meaning.faults (disk_in new))
    pub bounded : meaning.calls (disk_in new) ≤ meaning.calls (disk_in old) + most_calls (unsure_in old) outcome
    pub settled : settle (state_in new) ≡ state_behind (birth_in old) (settle (state_in old)) kept outcome
    pub untried : OnTrue (is_untried outcome) (disk_in new ≡ disk_in old)

  -- one deed
  abbrev pub Does : Store D → Deed → Store D → Type 0
  Does old deed new = Performs old (entry_of deed) deed.outcome new

  -- the deeds lead from what the store was to what it is, one after the other
  abbrev pub Leads : Store D → List Deed → Store D → Type 0
  Leads old [] new = new ≡ old
  Leads old (deed ∷ deeds) new = (between : Store D) × Does old deed between × Leads between deeds new

  -- deeds go on from where others led
  pub Leads-append : (a b c : Store D) (xs ys : List Deed) → Leads a xs b → Leads b ys c → Leads a (xs ++ ys) c
  Leads-append a b c [] ys first then_ = subst (λ s. Leads s ys c) first then_
  Leads-append a b c (deed ∷ xs) ys first then_ = (first.0, first.1, Leads-append first.0 b c xs ys first.2 then_)

  -- An entry that isn't recorded: the state is what it makes of it, of which nothing is left when the store is opened again, and nothing else
  -- changes.
  pub record Passes (old : Store D) (brief : Passing) (new : Store D) : Type 0 where
    pub ruled : rules_in new ≡ rules_in old
    pub born : birth_in new ≡ birth_in old
    pub state : state_in new ≡ passes brief (state_in old)
    pub settled : settle (state_in new) ≡ settle (state_in old)
    pub unsure : unsure_in new ≡ unsure_in old
    pub disk : disk_in new ≡ disk_in old
    pub holds : (birth : ℕ) (entries : List Recorded) → IsStore meaning old birth entries → IsStore meaning new birth entries

  -- ---- the next message of a link

  -- the entry by which a message is given up whose validity has passed
  abbrev pub given_up : Rules → (link now message : ℕ) → Recorded
  given_up rules link now message = entry.Rejected (record { message = message; smsc = id_of link rules; cause = Expired; time = now })

  -- why a message isn't handed out: the entry that gives it up is refused; or memory was wanting, and nothing has changed
  abbrev pub Withholds : (expired : Bool) → Store D → (link now message : ℕ) → Refusal → Store D → Type 0
  Withholds true old link now message refusal new =
      Performs old (given_up (rules_in old) link now message) (Err refusal) new ⊎ ((refusal ≡ Memory) × (new ≡ old))
  Withholds false old link now message refusal new = (refusal ≡ Memory) × (new ≡ old)

  -- What a store answers to a link that asks for its next message, which is this one: where its validity has passed it is given up, and
  -- else it is taken, and the message handed out.
  abbrev pub TakesMessage : Store D → (link now message : ℕ) → Result (Option Taken) Refusal → Store D → Type 0
  TakesMessage old link now message (Ok None) new = ⊥
  TakesMessage old link now message (Ok (Some (taken.Send number sms))) new =
      (is_expired message now (state_in old) ≡ false) × (number ≡ message) × (Some sms ≡ sms_of message (state_in old)) × Passes old (Took link message now) new
  TakesMessage old link now message (Ok (Some (taken.Expired number))) new =
      (is_expired message now (state_in old) ≡ true) × (number ≡ message)
      × (reply : Reply) × Performs old (given_up (rules_in old) link now message) (Ok reply) new
  TakesMessage old link now message (Err refusal) new = Withholds (is_expired message now (state_in old)) old link now message refusal new

  -- what a store answers to a link that asks for its next message: nothing exactly where there is none
  abbrev pub TakesNext : Store D → (link now : ℕ) → Option ℕ → Result (Option Taken) Refusal → Store D → Type 0
  TakesNext old link now None outcome new = (outcome ≡ Ok None) × (new ≡ old)
  TakesNext old link now (Some message) outcome new = TakesMessage old link now message outcome new

  abbrev pub Takes : Store D → (link now : ℕ) → Result (Option Taken) Refusal → Store D → Type 0
  Takes old link now outcome new = TakesNext old link now (next (rules_in old) (state_in old) link now) outcome new

  -- ---- the next job

  -- What a store answers to whoever asks for the next job, which is this one: it is taken, and its URL is handed out, with how often it was
  -- given back; or memory was wanting, and nothing has changed.
  abbrev pub TakesThisJob : Store D → (job : ℕ) → Result (Option (ℕ × List ℕ × ℕ)) WantOfMemory → Store D → Type 0
  TakesThisJob old job (Ok None) new = ⊥
  TakesThisJob old job (Ok (Some taken)) new =
      (taken.0 ≡ job) × (Some taken.1 ≡ url_of job (state_in old)) × (taken.2 ≡ returns_of job (state_in old)) × Passes old (TookJob job) new
  TakesThisJob old job (Err memory) new = new ≡ old

  -- what a store answers to whoever asks for the next job: nothing exactly where there is none
  abbrev pub TakesJob : Store D → Option ℕ → Result (Option (ℕ × List ℕ × ℕ)) WantOfMemory → Store D → Type 0
  TakesJob old None outcome new = (outcome ≡ Ok None) × (new ≡ old)
  TakesJob old (Some job) outcome new = TakesThisJob old job outcome new

  abbrev pub TakesNextJob : Store D → Result (Option (ℕ × List ℕ × ℕ)) WantOfMemory → Store D → Type 0
  TakesNextJob old outcome new = TakesJob old (next_job (state_in old)) outcome new

  -- ---- the next arrival

  -- What a store answers to whoever asks for the next arrival, which is this one: it is taken, and the message is handed out; or memory was
  -- wanting, and nothing has changed.
  abbrev pub TakesThisArrival : Store D → (arrival : ℕ) → Result (Option (ℕ × Sms)) WantOfMemory → Store D → Type 0
  TakesThisArrival old arrival (Ok None) new = ⊥
  TakesThisArrival old arrival (Ok (Some taken)) new =
      (taken.0 ≡ arrival) × (Some taken.1 ≡ arrival_of arrival (state_in old)) × Passes old (TookArrival arrival) new
  TakesThisArrival old arrival (Err memory) new = new ≡ old

  -- what a store answers to whoever asks for the next arrival: nothing exactly where there is none
  abbrev pub TakesArrival : Store D → Option ℕ → Result (Option (ℕ × Sms)) WantOfMemory → Store D → Type 0
  TakesArrival old None outcome new = (outcome ≡ Ok None) × (new ≡ old)
  TakesArrival old (Some arrival) outcome new = TakesThisArrival old arrival outcome new

  abbrev pub TakesNextArrival : Store D → Result (Option (ℕ × Sms)) WantOfMemory → Store D → Type 0
  TakesNextArrival old outcome new = TakesArrival old (next_arrival (state_in old)) outcome new
