-- What the session of a link comes to: its steps, each of which may come where it stands, and its end.
use Rattle.std.specs.Prelude.{◌≡◌, ◌≢◌, ◌⊎◌, ⊤, ℕ, ◌+◌, ◌<◌, ◌≤◌, true, false, List, [], ◌∷◌, ◌++◌, length, take, Some}
use Rattle.std.specs.List.{Contains}
use Rattle.gate_entries.specs.declared.passing.Passing.{Passing}
use Rattle.gate_entries.specs.declared.passing.Passing.TheVariants as passing
use Rattle.link_core.specs.Grammar.{IsFrame, HasFirst, NoneComes}
use Rattle.link_core.specs.Streams.{AreFrames}
use Rattle.link_core.specs.declared.heard.Heard.{Heard}
use Rattle.link_core.specs.declared.out.Out.{Out}
use Rattle.link_turn.specs.Steps.{Step, hears, says, records, passes, takes, leaves, Deed, heards_in, said_in, times_in, deeds_in}
use Rattle.link_turn.specs.Back.{open_login, in_use, held, is_up, last_said, before_end, IsFree, IsAmong}
use Rattle.link_turn.specs.Due.{Due, nothing, log_in, come_up, acknowledge, reject, give_back, report, arrive, send, say, over, left, due, entry_for, passing_for, out_for}
use Rattle.link_turn.specs.declared.end_cause.EndCause.{EndCause}
use Rattle.link_turn.specs.declared.end_cause.EndCause.TheVariants as end_is
use Rattle.link_turn.specs.declared.terms.Terms.{Terms}

-- ---- which steps may come

module _ (terms : Terms) where
  -- Something is said with its tag: a message only under a tag that isn't in use, and while fewer are in use than may be; a question only
  -- where nothing was said for so long.
  abbrev pub MaySay : Due → List Step → (tag now : ℕ) → Type 0
  MaySay (send message sms) before tag now = IsFree tag (in_use before) × (length (in_use before) < terms.window)
  MaySay nothing before tag now = IsFree tag (in_use before) × (terms.keepalive ≢ 0) × (last_said before + terms.keepalive ≤ now)
  MaySay log_in before tag now = ⊤
  MaySay come_up before tag now = ⊤
  MaySay (acknowledge message foreign) before tag now = ⊤
  MaySay (reject message code) before tag now = ⊤
  MaySay (give_back message) before tag now = ⊤
  MaySay (report foreign kind text) before tag now = ⊤
  MaySay (arrive sms) before tag now = ⊤
  MaySay (say out) before tag now = ⊤
  MaySay (over cause) before tag now = ⊤
  MaySay left before tag now = ⊤

  -- At the end what is held is given back, and then the link goes down.
  abbrev pub MayLeave : Passing → List Step → Type 0
  MayLeave (passing.Returned message) before = IsAmong message (held before)
  MayLeave (passing.Down link) before = (link ≡ terms.link) × (is_up before ≡ true) × (held before ≡ [])
  MayLeave (passing.Up link) before = ⊥
  MayLeave (passing.Took link message time) before = ⊥
  MayLeave (passing.TookJob job) before = ⊥
  MayLeave (passing.ReturnedJob job) before = ⊥
  MayLeave (passing.TookArrival arrival) before = ⊥
  MayLeave (passing.ReturnedArrival arrival) before = ⊥

  -- A step may come behind others: a frame where nothing is due; else what is due.
  abbrev pub MayCome : Step → List Step → Type 0
  MayCome (hears heard) before = due before ≡ nothing
  MayCome (says out now) before = (tag : ℕ) × (time : ℕ) × (out_for (due before) tag time ≡ Some out) × MaySay (due before) before tag now
  MayCome (records kept outcome) before = (time : ℕ) × (entry_for terms.link terms.smsc (due before) time ≡ Some kept)
  MayCome (passes brief) before = passing_for terms.link terms.smsc (due before) ≡ Some brief
  MayCome (takes now outcome) before = (due before ≡ nothing) × (is_up before ≡ true)
  MayCome (leaves brief) before = MayLeave brief before

  -- each may come where it stands
  abbrev pub AreSteps : List Step → Type 0
  AreSteps [] = ⊤
  AreSteps (step ∷ before) = MayCome step before × AreSteps before

-- ---- readings of the clock

-- times are readings, in their order; several may be the same one
abbrev pub AreReadings : (times readings : List ℕ) → Type 0
AreReadings [] readings = ⊤
AreReadings (time ∷ times) [] = ⊥
AreReadings (time ∷ times) (reading ∷ readings) = ((time ≡ reading) × AreReadings times (reading ∷ readings)) ⊎ AreReadings (time ∷ times) readings

-- ---- the end

-- what was asked with this tag at this time waits for its answer
abbrev pub IsUnanswered : (tag sent : ℕ) → List Step → Type 0
IsUnanswered tag sent steps =
    (open_login steps ≡ Some (record { tag = tag; said = sent }))
    ⊎ ((message : ℕ) × Contains (in_use steps) (record { message = message; asked = record { tag = tag; said = sent } }))

module _ (hears : List ℕ → Heard → Type 0) (refuses : List ℕ → ℕ → ℕ → Type 0) (said : Out → List ℕ) (terms : Terms) where
  -- nothing was due, all frames that were heard were handled, and nothing was cut short
  pub record IsIdle (steps : List Step) (rest cut : List ℕ) : Type 0 where
    pub nothing_due : due steps ≡ nothing
    pub all_handled : ¬ HasFirst (IsFrame hears) rest
    pub whole : cut ≡ []

  -- what was to be said broke off: a front of it was said, not all
  pub record BreaksOff (steps : List Step) (cut : List ℕ) : Type 0 where
    pub out : Out
    pub tag : ℕ
    pub time : ℕ
    pub to_say : out_for (due steps) tag time ≡ Some out
    pub gone : ℕ
    pub less : gone < length (said out)
    pub front : cut ≡ take gone (said out)

  -- The cause of an end, by the steps before it, by what was heard behind the frames that were handled, and by what was said of what broke off.
  abbrev pub IsCause : EndCause → List Step → (rest cut : List ℕ) → Type 0
  IsCause end_is.PeerEnd steps rest cut = IsIdle steps rest cut
  IsCause end_is.PeerFault steps rest cut = IsIdle steps rest cut ⊎ BreaksOff steps cut
  IsCause (end_is.LoginRefused code) steps rest cut = (due steps ≡ over (end_is.LoginRefused code)) × (cut ≡ [])
  IsCause (end_is.BadFrame at code) steps rest cut = IsIdle steps rest cut × NoneComes (IsFrame hears) rest × refuses rest at code
  IsCause (end_is.NoReply tag sent now) steps rest cut = IsIdle steps rest cut × IsUnanswered tag sent steps × (sent + terms.wait_ack < now)
  IsCause end_is.Disk steps rest cut = (due steps ≡ over end_is.Disk) × (cut ≡ [])
  IsCause end_is.Full steps rest cut = (due steps ≡ over end_is.Full) × (cut ≡ [])
  IsCause end_is.Memory steps rest cut = (cut ≡ []) ⊎ BreaksOff steps cut
  IsCause end_is.Bye steps rest cut = (due steps ≡ over end_is.Bye) × (cut ≡ [])
  IsCause end_is.Closed steps rest cut = IsIdle steps rest cut
  IsCause (end_is.Budget taken) steps rest cut = ⊥
  IsCause (end_is.QuietLimit turns) steps rest cut = ⊥

  -- The talk of a link whose session ended. What was heard is the frames that were handled, and a rest; what was said is what its steps say, of
  -- which the last may be cut short; and nothing is held at its end.
  pub record LinkTalk (heard spoken readings : List ℕ) (deeds : List Deed) (cause : EndCause) : Type 0 where
    pub steps : List Step
    pub rest : List ℕ
    pub cut : List ℕ
    pub each : AreSteps terms steps
    pub frames : AreFrames hears heard (heards_in steps) rest
    pub says : spoken ≡ said_in said steps ++ cut
    pub timed : AreReadings (times_in steps) readings
    pub done : deeds ≡ deeds_in steps
    pub caused : IsCause cause (before_end steps) rest cut
    pub none_held : held steps ≡ []
    pub is_down : is_up steps ≡ false
