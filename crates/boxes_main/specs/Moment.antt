-- What stands at each moment of a session over HTTP: what was answered 202 by then is stored, and a stop leaves it.
use Rattle.std.specs.Prelude.{◌≡◌, ℕ, Bool, List, [], ◌++◌, All, bytes_eq, codes, map, if◌then◌else◌}
use Rattle.std.specs.Bool.{OnTrue}
use Rattle.std.specs.List.{flat_map}
use Rattle.config_groups.specs.declared.settings.Settings.{Settings}
use Rattle.gate_entries.specs.declared.recorded.Recorded.{Recorded}
use Rattle.gate_store.specs.Deeds.{Leads, done_of, entry_of}
use Rattle.gate_store.specs.Reopening.{MayStandFor}
use Rattle.gate_store.specs.Store.{disk_in, unsure_in}
use Rattle.gate_store.specs.declared.store.Store.{Store}
use Rattle.http_text.specs.Answer.{row as answer_row}
use Rattle.http_text.specs.declared.answer.Answer.{Answer}
use Rattle.kn_base.specs.Talk.{said_of}
use Rattle.sendsms_http.specs.Events.{Event, pieces_of, deeds_of}
use Rattle.sendsms_http.specs.Exchange.{Exchange, IsExchange, said_in}
use Rattle.store_disk.specs.Disk.{Areas}
use Rattle.store_disk.specs.Meaning.{Meaning}
use Rattle.store_disk.specs.Story.{IsImage}

-- an answer says that messages were accepted
abbrev pub is_202 : Answer → Bool
is_202 answer = bytes_eq (answer_row answer).status (codes "202 Accepted")

-- the entries for the messages of a request that was answered 202
abbrev pub accepts_of : Exchange → List Recorded
accepts_of exchange = if is_202 exchange.answer then map entry_of exchange.deeds else []

-- the same of several requests, in their order
abbrev pub accepts_in : List Exchange → List Recorded
accepts_in exchanges = flat_map accepts_of exchanges

-- What was said is a front of the answers to some requests, and what those of them accepted that were answered 202 is the front of what was done.
pub record SaysStored (settings : Settings) (said : List ℕ) (done : List Recorded) : Type 0 where
  pub answered : List Exchange
  pub each : All (λ exchange. (ended : Bool) × IsExchange settings ended exchange) answered
  pub unsaid : List ℕ
  pub says : said_in answered ≡ said ++ unsaid
  pub unanswered : List Recorded
  pub stored : done ≡ accepts_in answered ++ unanswered

module _ {D : Type 0} (meaning : Meaning D) (settings : Settings) (birth : ℕ) (entries : List Recorded) (opened closed : Store D) where
  -- Between what happened before and what happened after: the store that the deeds before led to, from which those after lead. Whatever a stop
  -- leaves there stands for what was done before, or, where an entry is unsure, for that with it; and of that is all that was answered 202.
  pub record IsStoredThen (before after : List Event) : Type 0 where
    pub between : Store D
    pub led : Leads meaning opened (deeds_of before) between
    pub leads_on : Leads meaning between (deeds_of after) closed
    pub stands : OnTrue meaning.tells ((image : Areas) → IsImage (meaning.story (disk_in between)) image
        → MayStandFor birth (entries ++ done_of (deeds_of before)) (unsure_in between) image)
    pub says : SaysStored settings (said_of (pieces_of before)) (done_of (deeds_of before))

  -- so it is at each moment
  abbrev pub AreStored : List Event → Type 0
  AreStored events = (before after : List Event) → events ≡ before ++ after → IsStoredThen before after
