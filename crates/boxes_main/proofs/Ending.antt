-- The stages of the commands, put together.
use Rattle.std.proofs.Common.{◌≡◌, ℕ, List, [], Option, Some, None, refl, ap, sym, ◌∙◌, arith, subst}
use Rattle.std.specs.Prelude.{◌↔◌, option_map, IfSome}
use Rattle.kn_base.specs.Course.{Course}
use Rattle.config_groups.specs.declared.read.ConfigFault.TheVariants as config_is
use Rattle.config_groups.specs.declared.settings.Settings.{Settings}
use Rattle.store_disk.specs.Meaning.{Meaning}
use Rattle.gate_store.specs.declared.store.Store as store
use Rattle.boxes_main.specs.Door.{IsServed, Serves, ServesNone, DoorComesTo}
use Rattle.boxes_main.specs.DoorSteps.{ServesOne, Ends}
use Rattle.boxes_main.specs.Failure.{ComesTo, row_of, status_of}
use Rattle.boxes_main.specs.House.{Rooms, Stock, MakesFor}
use Rattle.boxes_main.specs.Opening.{IsConfigured, IsNotOpen, anything}
use Rattle.boxes_main.specs.OpeningSteps.{Opens, OpensNothing}
use Rattle.boxes_main.specs.SessionFault.{session_row}
use Rattle.boxes_main.specs.Show.{IsShown, Shows, ShowsNone, ShowComesTo, output_row}
use Rattle.boxes_main.specs.ShowSteps.{ShowsOne, EndsShow}
use Rattle.boxes_main.specs.Worker.{Worker}
use Rattle.boxes_main.specs.declared.failure.Failure.{Failure}
use Rattle.boxes_main.specs.declared.failure.Failure.TheVariants.{Opening, Own}
use Rattle.boxes_main.specs.declared.opening_fault.OpeningFault.{OpeningFault}
use Rattle.boxes_main.specs.declared.opening_fault.OpeningFault.TheVariants.{Usage, Configuration, NoStoreFile, Store}
use Rattle.boxes_main.specs.declared.printing.OutputFault.{OutputFault}
use Rattle.boxes_main.specs.declared.session_fault.SessionFault.{SessionFault}

-- ---- any command

module _ {F : Type 0} (unopened : OpeningFault → Type 0) (done : Option F → Type 0) where
  -- its work was done
  pub comes_done : (fault : Option F) → done fault → ComesTo unopened done (option_map Own fault)
  comes_done None so = so
  comes_done (Some fault) so = so

  -- what follows of each stage follows of all
  pub comes_so : (more : OpeningFault → Type 0) (then_ : Option F → Type 0) → ((fault : OpeningFault) → unopened fault → more fault)
      → ((fault : Option F) → done fault → then_ fault) → (failure : Option (Failure F)) → ComesTo unopened done failure → ComesTo more then_ failure
  comes_so more then_ first second None comes = second None comes
  comes_so more then_ first second (Some (Opening fault)) comes = first fault comes
  comes_so more then_ first second (Some (Own fault)) comes = second (Some fault) comes

  -- a usage is told exactly where there are no words for the command
  pub usage_of : {A : Type 0} (words : Option A) → ((fault : OpeningFault) → unopened fault → (fault ≡ Usage) ↔ (words ≡ None))
      → ((fault : Option F) → done fault → words ≡ None → ⊥) → (failure : Option (Failure F)) → ComesTo unopened done failure
      → (failure ≡ Some (Opening Usage)) ↔ (words ≡ None)
  usage_of words unnamed named None comes = (λ is. absurd cc, λ none. absurd (named None comes none))
  usage_of words unnamed named (Some (Opening fault)) comes =
      (λ is. (unnamed fault comes).0 (let e : Some (Opening fault) ≡ Some (Opening Usage) = is in cc), λ none. ap (λ f. Some (Opening f)) ((unnamed fault comes).1 none))
  usage_of words unnamed named (Some (Own fault)) comes = (λ is. absurd cc, λ none. absurd (named (Some fault) comes none))

module _
    {S D : Type 0} (files : S → Option (List (List ℕ × List ℕ))) (shelf_faults : S → ℕ)
    (meaning : Meaning D) (HasAsked : Settings → Type 0) (old : S) (stock : Stock) (disk : Option D) where
  -- words that name no configuration
  pub not_named : IsNotOpen files shelf_faults meaning HasAsked None old old stock None Usage
  not_named = (refl, refl, refl)

  -- want of memory before the shelf was asked
  pub not_begun : (name : List ℕ) → IsNotOpen files shelf_faults meaning HasAsked (Some name) old old stock None (Configuration config_is.Memory)
  not_begun name = (record { read = by_told (files old); missed = λ is. absurd cc; kept = refl; not_fewer = omega arith }, refl)
    where
      by_told : (told : Option (List (List ℕ × List ℕ))) → IfSome told (λ files. Unit {0})
      by_told None = tt
      by_told (Some all) = tt

  -- what is no usage is told only of words that name a configuration
  pub named : (name : Option (List ℕ)) (new : S) (fault : OpeningFault)
      → IsNotOpen files shelf_faults meaning HasAsked name old new stock disk fault → (fault ≡ Usage) ↔ (name ≡ None)
  named name new Usage cause = (λ _. cause.0, λ _. refl)
  named None new (Configuration fault) cause = absurd cause.0
  named (Some n) new (Configuration fault) cause = (λ is. absurd cc, λ is. absurd cc)
  named None new NoStoreFile cause = absurd cause.1.reads
  named (Some n) new NoStoreFile cause = (λ is. absurd cc, λ is. absurd cc)
  named None new (Store fault) cause = absurd cause.1.reads
  named (Some n) new (Store fault) cause = (λ is. absurd cc, λ is. absurd cc)

-- a configuration that was read has a name
pub configured_named : {S : Type 0} (files : S → Option (List (List ℕ × List ℕ))) (shelf_faults : S → ℕ) (name : Option (List ℕ)) (old new : S) (settings : Settings)
    → IsConfigured files shelf_faults name old new settings → name ≡ None → ⊥
configured_named files shelf_faults None old new settings configured none = absurd configured.reads
configured_named files shelf_faults (Some n) old new settings configured none = absurd cc

-- ---- the command `door`

module _
    {V S O E D C L : Type 0} (course : V → Course) (files : S → Option (List (List ℕ × List ℕ))) (shelf_faults : S → ℕ)
    (meaning : Meaning D) (readings_of : C → Option (List ℕ))
    (name : Option (List ℕ)) (old new : Rooms V S O E) (before after : Stock) where
  abbrev none_served : List (Worker C L) → Option D → OpeningFault → Type 0
  none_served workers disk = ServesNone course files shelf_faults meaning readings_of name old new before workers disk

  abbrev one_served : List (Worker C L) → Option D → Option SessionFault → Type 0
  one_served workers disk = Serves course files shelf_faults meaning readings_of name old new before workers disk

  -- a usage is told exactly where the words name no configuration for the command
  pub usage_by : (workers : List (Worker C L)) (disk : Option D) (failure : Option (Failure SessionFault))
      → DoorComesTo course files shelf_faults meaning readings_of name old new before workers disk failure → (failure ≡ Some (Opening Usage)) ↔ (name ≡ None)
  usage_by workers disk failure comes =
      usage_of (none_served workers disk) (one_served workers disk) name
      (λ fault none. named files shelf_faults meaning anything old.shelf before disk name new.shelf fault none.cause)
      (λ fault one. configured_named files shelf_faults name old.shelf new.shelf one.settings one.configured) failure comes

  -- what is said on standard error changes nothing else
  pub comes_to_told : (workers : List (Worker C L)) (disk : Option D) (failure : Option (Failure SessionFault)) (errors : E)
      → DoorComesTo course files shelf_faults meaning readings_of name old new before workers disk failure
      → DoorComesTo course files shelf_faults meaning readings_of name old (record new { errors = errors }) before workers disk failure
  comes_to_told workers disk failure errors comes =
      comes_so (none_served workers disk) (one_served workers disk)
      (ServesNone course files shelf_faults meaning readings_of name old (record new { errors = errors }) before workers disk)
      (Serves course files shelf_faults meaning readings_of name old (record new { errors = errors }) before workers disk)
      (λ fault none. record { unserved = none.unserved; cause = none.cause })
      (λ fault one. record { settings = one.settings; configured = one.configured; served = one.served }) failure comes

  -- no store stood open
  pub ends_closed : (status : ℕ) (failure : Option (Failure SessionFault)) (disk : Option D) (workers : List (Worker C L)) (why : OpeningFault)
      → status ≡ status_of (row_of session_row) failure → failure ≡ Some (Opening why) → workers ≡ []
      → OpensNothing files shelf_faults meaning name old new before after why disk
      → Ends course files shelf_faults meaning readings_of name old new before after status failure disk workers
  ends_closed status failure disk workers why right failed alone nothing = record {
    others = nothing.others ∙ ap (λ v. record old { visitor = v; shelf = new.shelf }) (sym (ap (λ r. r.visitor) nothing.others));
    right = right;
    made = nothing.made;
    comes_to = subst (λ f. DoorComesTo course files shelf_faults meaning readings_of name old new before workers disk f) (sym failed)
        (record { unserved = record { unvisited = ap (λ r. r.visitor) nothing.others; no_worker = alone }; cause = nothing.cause });
  }

module _
    {V S O E D C L : Type 0} (course : V → Course) (files : S → Option (List (List ℕ × List ℕ))) (shelf_faults : S → ℕ)
    (meaning : Meaning D) (readings_of : C → Option (List ℕ))
    (name : Option (List ℕ)) (old mid new : Rooms V S O E) (before between after : Stock) (settings : Settings) (it : store.Store D) where
  -- a session was served over the store that was opened
  pub ends_served : (status : ℕ) (failure : Option (Failure SessionFault)) (disk : Option D) (workers : List (Worker C L))
      → Opens files shelf_faults meaning name old mid before between settings it
      → ServesOne course meaning readings_of settings mid new between after it status failure disk workers
      → Ends course files shelf_faults meaning readings_of name old new before after status failure disk workers
  ends_served status failure disk workers opens serves =
      let shelf : new.shelf ≡ mid.shelf = ap (λ r. r.shelf) serves.others in
      let served = serves.served (before.disks settings.core.store_file) before.word opens.opens.birth opens.opens.disk opens.opens.told opens.opens.new_disk opens.opens.opened in
      record {
        others = serves.others ∙ ap (λ (r : Rooms V S O E). record r { visitor = new.visitor }) opens.others
            ∙ ap (λ s. record old { visitor = new.visitor; shelf = s }) (sym shelf);
        right = serves.right;
        made = subst (λ (d : Option D). MakesFor d before after) (sym served.handed_back) (subst (λ s. MakesFor (Some served.after) before s) (sym serves.stock) opens.opens.made);
        comes_to = subst (λ f. DoorComesTo course files shelf_faults meaning readings_of name old new before workers disk f) (sym serves.failed)
            (comes_done (ServesNone course files shelf_faults meaning readings_of name old new before workers disk)
            (Serves course files shelf_faults meaning readings_of name old new before workers disk) serves.fault (record {
              settings = settings;
              configured = subst (λ s. IsConfigured files shelf_faults name old.shelf s settings) (sym shelf) opens.configured;
              served = subst (λ (v : V). IsServed meaning readings_of settings (before.disks settings.core.store_file) before.word (course v) (course new.visitor) workers disk serves.fault)
                  (ap (λ r. r.visitor) opens.others) served;
            }));
      }

-- ---- the command `show`

module _
    {V S O E D : Type 0} (course : O → Course) (files : S → Option (List (List ℕ × List ℕ))) (shelf_faults : S → ℕ)
    (meaning : Meaning D)
    (name : Option (List ℕ)) (old new : Rooms V S O E) (before after : Stock) where
  abbrev none_shown : Option D → OpeningFault → Type 0
  none_shown disk = ShowsNone course files shelf_faults meaning name old new before disk

  abbrev one_shown : Option D → Option OutputFault → Type 0
  one_shown disk = Shows course files shelf_faults meaning name old new before disk

  -- the same of `show`
  pub show_usage_by : (disk : Option D) (failure : Option (Failure OutputFault))
      → ShowComesTo course files shelf_faults meaning name old new before disk failure → (failure ≡ Some (Opening Usage)) ↔ (name ≡ None)
  show_usage_by disk failure comes =
      usage_of (none_shown disk) (one_shown disk) name
      (λ fault none. named files shelf_faults meaning anything old.shelf before disk name new.shelf fault none.cause)
      (λ fault one. configured_named files shelf_faults name old.shelf new.shelf one.settings one.configured) failure comes

  -- what is said on standard error changes nothing else
  pub shows_told : (disk : Option D) (failure : Option (Failure OutputFault)) (errors : E)
      → ShowComesTo course files shelf_faults meaning name old new before disk failure
      → ShowComesTo course files shelf_faults meaning name old (record new { errors = errors }) before disk failure
  shows_told disk failure errors comes =
      comes_so (none_shown disk) (one_shown disk)
      (ShowsNone course files shelf_faults meaning name old (record new { errors = errors }) before disk)
      (Shows course files shelf_faults meaning name old (record new { errors = errors }) before disk)
      (λ fault none. record { unprinted = none.unprinted; cause = none.cause })
      (λ fault one. record { settings = one.settings; configured = one.configured; shown = one.shown }) failure comes

  -- no store stood open
  pub show_ends_closed : {C L : Type 0} (status : ℕ) (failure : Option (Failure OutputFault)) (disk : Option D) (workers : List (Worker C L)) (why : OpeningFault)
      → status ≡ status_of (row_of output_row) failure → failure ≡ Some (Opening why) → workers ≡ []
      → OpensNothing files shelf_faults meaning name old new before after why disk
      → EndsShow course files shelf_faults meaning name old new before after status failure disk workers
  show_ends_closed status failure disk workers why right failed alone nothing = record {
    others = nothing.others ∙ ap (λ o. record old { shelf = new.shelf; output = o }) (sym (ap (λ r. r.output) nothing.others));
    right = right;
    no_worker = alone;
    made = nothing.made;
    comes_to = subst (λ f. ShowComesTo course files shelf_faults meaning name old new before disk f) (sym failed)
        (record { unprinted = ap (λ r. r.output) nothing.others; cause = nothing.cause });
  }

module _
    {V S O E D : Type 0} (course : O → Course) (files : S → Option (List (List ℕ × List ℕ))) (shelf_faults : S → ℕ)
    (meaning : Meaning D)
    (name : Option (List ℕ)) (old mid new : Rooms V S O E) (before between after : Stock) (settings : Settings) (it : store.Store D) where
  -- the counts of the store that was opened were printed
  pub show_ends : {C L : Type 0} (status : ℕ) (failure : Option (Failure OutputFault)) (disk : Option D) (workers : List (Worker C L))
      → Opens files shelf_faults meaning name old mid before between settings it
      → ShowsOne course meaning settings.rules mid new between after it status failure disk workers
      → EndsShow course files shelf_faults meaning name old new before after status failure disk workers
  show_ends status failure disk workers opens shows =
      let shelf : new.shelf ≡ mid.shelf = ap (λ r. r.shelf) shows.others in
      let shown = shows.shown (before.disks settings.core.store_file) before.word opens.opens.birth opens.opens.disk opens.opens.told opens.opens.new_disk opens.opens.opened in
      record {
        others = shows.others ∙ ap (λ (r : Rooms V S O E). record r { output = new.output }) opens.others
            ∙ ap (λ s. record old { shelf = s; output = new.output }) (sym shelf);
        right = shows.right;
        no_worker = shows.no_worker;
        made = subst (λ (d : Option D). MakesFor d before after) (sym shown.handed_back) (subst (λ s. MakesFor (Some shown.after) before s) (sym shows.stock) opens.opens.made);
        comes_to = subst (λ f. ShowComesTo course files shelf_faults meaning name old new before disk f) (sym shows.failed)
            (comes_done (ShowsNone course files shelf_faults meaning name old new before disk)
            (Shows course files shelf_faults meaning name old new before disk) shows.fault (record {
              settings = settings;
              configured = subst (λ s. IsConfigured files shelf_faults name old.shelf s settings) (sym shelf) opens.configured;
              shown = subst (λ (o : O). IsShown meaning (before.disks settings.core.store_file) before.word settings.rules (course o) (course new.output) disk shows.fault)
                  (ap (λ r. r.output) opens.others) shown;
            }));
      }
