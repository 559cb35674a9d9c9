-- What the command `door` comes to.
use Rattle.std.specs.Prelude.{◌≡◌, ◌≤◌, ◌+◌, ◌⊎◌, ℕ, Bool, true, false, List, [], ◌∷◌, ◌++◌, Option, Some, None, IfSome, is_some, Err}
use Rattle.std.specs.Bool.{OnTrue}
use Rattle.kn_base.specs.Course.{Course}
use Rattle.config_groups.specs.declared.settings.Settings.{Settings}
use Rattle.gate_entries.specs.declared.recorded.Recorded.{Recorded}
use Rattle.gate_model.specs.Acceptor.{Deed, CountsFaults}
use Rattle.gate_model.specs.declared.reply.Refusal.TheVariants as refusal_is
use Rattle.sendsms_http.specs.Events.{Event, IsInTurn}
use Rattle.sendsms_http.specs.Session.{Talks, with_last}
use Rattle.sendsms_http.specs.declared.http_end.HttpEnd.{HttpEnd}
use Rattle.sendsms_http.specs.declared.http_end.HttpEnd.TheVariants as end_is
use Rattle.route_rules.specs.declared.rules.Rules.{Rules}
use Rattle.store_disk.specs.Meaning.{Meaning}
use Rattle.store_disk.specs.Disk.{Areas}
use Rattle.store_disk.specs.Story.{Story, LeavesOnly}
use Rattle.gate_store.specs.Deeds.{AreReasoned, Leads, done_of, entry_of}
use Rattle.gate_store.specs.Entries.{state_of}
use Rattle.gate_store.specs.Reopening.{MayReopen}
use Rattle.gate_store.specs.Store.{unsure_in}
use Rattle.gate_store.specs.declared.store.Store.{Store}
use Rattle.boxes_main.specs.Failure.{ComesTo}
use Rattle.boxes_main.specs.House.{Rooms, Stock}
use Rattle.boxes_main.specs.Kept.{IsKept, MayLeave, calls_for}
use Rattle.boxes_main.specs.Moment.{AreStored, accepts_in}
use Rattle.boxes_main.specs.Opening.{IsConfigured, IsFound, IsNotOpen, anything}
use Rattle.boxes_main.specs.Worker.{Worker, IsHttpWorker}
use Rattle.boxes_main.specs.declared.failure.Failure.{Failure}
use Rattle.boxes_main.specs.declared.opening_fault.OpeningFault.{OpeningFault}
use Rattle.boxes_main.specs.declared.session_fault.SessionFault.{SessionFault}
use Rattle.boxes_main.specs.declared.session_fault.SessionFault.TheVariants.{Disk, Connection, Budget, Memory}

-- the octets that one connection may say
abbrev pub octets_limit : ℕ
octets_limit = 1048576

-- what a session fails by: the disk, where an entry is unsure when the store is closed; or else the connection, its budget or the memory for it
abbrev pub fault_by : (is_unsure : Bool) → HttpEnd → Option SessionFault
fault_by true end = Some Disk
fault_by false end_is.End = None
fault_by false end_is.Fault = Some Connection
fault_by false end_is.Quiet = Some Connection
fault_by false (end_is.Budget taken) = Some Budget
fault_by false end_is.Memory = Some Memory

-- No session was served: nothing was said, and no worker left anything.
pub record IsUnserved {V C L : Type 0} (old new : V) (workers : List (Worker C L)) : Type 0 where
  pub unvisited : new ≡ old
  pub no_worker : workers ≡ []

-- ---- what is in doubt

-- An entry may be unsure behind deeds: the disk failed in one that asked for it, and none was done since.
pub record IsInDoubt (deeds : List Deed) (kept : Recorded) : Type 0 where
  pub before : List Deed
  pub deed : Deed
  pub since : List Deed
  pub split : deeds ≡ before ++ deed ∷ since
  pub failed : deed.outcome ≡ Err refusal_is.Disk
  pub asked : kept ≡ entry_of deed
  pub none_done : done_of since ≡ []

-- an entry is what the first of some deeds asks for
abbrev pub IsNext : List Deed → Recorded → Type 0
IsNext [] kept = ⊥
IsNext (deed ∷ deeds) kept = kept ≡ entry_of deed

-- What a stop in a session leaves: areas that reopen to what is left of the state behind a front of its deeds, or to that with one entry
-- more, which was in doubt then or was being recorded.
pub record ReopensAmid (birth : ℕ) (rules : Rules) (entries : List Recorded) (deeds : List Deed) (image : Areas) : Type 0 where
  pub front : List Deed
  pub rest : List Deed
  pub split : deeds ≡ front ++ rest
  pub more : Option Recorded
  pub doubt : IfSome more (λ kept. IsInDoubt front kept ⊎ IsNext rest kept)
  pub reopens : MayReopen birth rules (state_of birth rules (entries ++ done_of front)) more image

-- ---- a session

-- the most disk calls of deeds
abbrev pub calls_in : List Deed → ℕ
calls_in [] = 0
calls_in (deed ∷ deeds) = calls_for deed.outcome + calls_in deeds

module _ {D : Type 0} (meaning : Meaning D) where
  -- A session that was served by settings over a store, which was opened on a disk with this story, led by the session's deeds, and closed. Each
  -- outcome has its reason in the state before it, by the rules of the settings, and what was done is what was answered 202. Of all that happened, in its
  -- order, it stood so at each moment.
  pub record IsSession
      (settings : Settings) (begun : Story) (word : Option ℕ) (old new : Course) (readings : List ℕ) (end : HttpEnd) (disk : D) (fault : Option SessionFault) : Type 0 where
    pub birth : ℕ
    pub entries : List Recorded
    pub found : IsFound meaning.tells begun word settings.rules birth entries
    pub deeds : List Deed
    pub talks : Talks settings octets_limit old new readings deeds end
    pub events : List Event
    pub turn : IsInTurn settings events talks.pieces readings deeds (with_last talks.talk.kept talks.talk.last)
    pub reasoned : AreReasoned birth settings.rules (state_of birth settings.rules entries) deeds
    pub stored : done_of deeds ≡ accepts_in (with_last talks.talk.kept talks.talk.last)
    pub opened : Store D
    pub closed : Store D
    pub led : Leads meaning opened deeds closed
    pub kept : IsKept meaning settings.rules birth entries (done_of deeds) opened closed disk
    pub moments : AreStored meaning settings birth entries opened closed events
    pub doubt : IfSome (unsure_in closed) (IsInDoubt deeds)
    pub amid : OnTrue meaning.tells (LeavesOnly begun (meaning.story disk) (MayLeave settings.rules begun (ReopensAmid birth settings.rules entries deeds)))
    pub counted : CountsFaults 0 (meaning.faults disk) deeds
    pub bounded : meaning.calls disk ≤ 20 + calls_in deeds
    pub failed : fault ≡ fault_by (is_some (unsure_in closed)) end

module _ {D C L : Type 0} (meaning : Meaning D) (readings_of : C → Option (List ℕ)) where
  -- A session was served, and is all that one worker left.
  pub record IsServed
      (settings : Settings) (begun : Story) (word : Option ℕ) (old new : Course) (workers : List (Worker C L)) (disk : Option D) (fault : Option SessionFault) : Type 0 where
    pub readings : List ℕ
    pub end : HttpEnd
    pub worker : Worker C L
    pub alone : workers ≡ worker ∷ []
    pub left : IsHttpWorker readings_of worker readings end
    pub after : D
    pub handed_back : disk ≡ Some after
    pub session : IsSession meaning settings begun word old new readings end after fault

module _
    {V S O E D C L : Type 0} (course : V → Course) (files : S → Option (List (List ℕ × List ℕ))) (shelf_faults : S → ℕ)
    (meaning : Meaning D) (readings_of : C → Option (List ℕ)) where
  -- The store of the configuration stood open, on the house's disk under the name that it says, and a session was served over it.
  pub record Serves
      (name : Option (List ℕ)) (old new : Rooms V S O E) (stock : Stock) (workers : List (Worker C L)) (disk : Option D) (fault : Option SessionFault) : Type 0 where
    pub settings : Settings
    pub configured : IsConfigured files shelf_faults name old.shelf new.shelf settings
    pub served : IsServed meaning readings_of settings (stock.disks settings.core.store_file) stock.word
        (course old.visitor) (course new.visitor) workers disk fault

  -- No store stood open, and no session was served.
  pub record ServesNone
      (name : Option (List ℕ)) (old new : Rooms V S O E) (stock : Stock) (workers : List (Worker C L)) (disk : Option D) (fault : OpeningFault) : Type 0 where
    pub unserved : IsUnserved old.visitor new.visitor workers
    pub cause : IsNotOpen files shelf_faults meaning anything name old.shelf new.shelf stock disk fault

  -- what the command comes to
  abbrev pub DoorComesTo :
      (name : Option (List ℕ)) → Rooms V S O E → Rooms V S O E → Stock → List (Worker C L) → Option D → Option (Failure SessionFault) → Type 0
  DoorComesTo name old new stock workers disk =
      ComesTo (ServesNone name old new stock workers disk) (Serves name old new stock workers disk)
