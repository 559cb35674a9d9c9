-- The stages of `link`, put together.
use Rattle.std.proofs.Common.{◌≡◌, ℕ, true, List, [], Option, Some, None, refl, ap, sym, ◌∙◌, subst}
use Rattle.std.specs.Prelude.{◌↔◌, is_some, slice_get}
use Rattle.config_groups.specs.declared.settings.Settings.{Settings}
use Rattle.config_groups.specs.declared.settings.link_settings.LinkSettings.{LinkSettings}
use Rattle.gate_store.specs.declared.store.Store.{Store as Stored}
use Rattle.gate_store.specs.declared.store_fault.StoreFault.TheVariants as store_is
use Rattle.peer_dialer.specs.Dealings.{Dealings}
use Rattle.store_disk.specs.Meaning.{Meaning}
use Rattle.boxes_main.specs.Failure.{row_of, status_of}
use Rattle.boxes_main.specs.House.{Rooms, Stock, MakesFor}
use Rattle.boxes_main.specs.Link.{HasChosen, HasLink, LinkComesTo, Links, LinksNone, name_in}
use Rattle.boxes_main.specs.LinkFault.{link_row}
use Rattle.boxes_main.specs.LinkSteps.{ChosenSo, EndsLink, IsChosenIn, IsUnchosenIn, ServedSo, ServesChosen, ServesLink, StoresNone}
use Rattle.boxes_main.specs.Opening.{HasSettings, IsConfigured, IsNoStore, IsNotOpen}
use Rattle.boxes_main.specs.OpeningSteps.{OpensStore, OpensNone}
use Rattle.boxes_main.specs.Worker.{Worker}
use Rattle.boxes_main.specs.declared.failure.Failure.{Failure}
use Rattle.boxes_main.specs.declared.failure.Failure.TheVariants.{Opening, Own}
use Rattle.boxes_main.specs.declared.link_fault.LinkFault.{LinkFault}
use Rattle.boxes_main.specs.declared.link_fault.LinkFault.TheVariants.{Choice, Undialled, Session}
use Rattle.boxes_main.specs.declared.opening_fault.OpeningFault.{OpeningFault}
use Rattle.boxes_main.specs.declared.opening_fault.OpeningFault.TheVariants.{Usage, Store}
use Rattle.boxes_main.proofs.Ending.{comes_done, comes_so, named, usage_of}

-- words without a name in them are none
unnamed : (words : Option (List ℕ × List ℕ)) → (name_in words ≡ None) ↔ (words ≡ None)
unnamed None = (λ _. refl, λ _. refl)
unnamed (Some n) = (λ is. absurd cc, λ is. absurd cc)

-- settings that were read have a name
read_named : {S : Type 0} (files : S → Option (List (List ℕ × List ℕ))) (shelf_faults : S → ℕ) (words : Option (List ℕ × List ℕ)) (old new : S) (settings : Settings)
    → HasSettings files shelf_faults (name_in words) old new settings → words ≡ None → ⊥
read_named files shelf_faults None old new settings reads none = absurd reads
read_named files shelf_faults (Some n) old new settings reads none = absurd cc

module _
    {V S O E D C L : Type 0} (files : S → Option (List (List ℕ × List ℕ))) (shelf_faults : S → ℕ)
    (meaning : Meaning D) (readings_of : C → Option (List ℕ)) (dealings : L → Dealings)
    (words : Option (List ℕ × List ℕ)) (old new : Rooms V S O E) (before : Stock) where
  abbrev none_linked : List (Worker C L) → Option D → OpeningFault → Type 0
  none_linked workers disk = LinksNone files shelf_faults meaning readings_of dealings words old new before workers disk

  abbrev one_linked : List (Worker C L) → Option D → Option LinkFault → Type 0
  one_linked workers disk = Links files shelf_faults meaning readings_of dealings words old new before workers disk

  -- where the command went past its opening, the words name a configuration
  past_named : (workers : List (Worker C L)) (disk : Option D) (fault : Option LinkFault) → one_linked workers disk fault → words ≡ None → ⊥
  past_named workers disk None links none = read_named files shelf_faults words old.shelf new.shelf links.settings links.linked.configured.reads none
  past_named workers disk (Some (Session fault)) links none = read_named files shelf_faults words old.shelf new.shelf links.settings links.linked.configured.reads none
  past_named workers disk (Some Undialled) links none = read_named files shelf_faults words old.shelf new.shelf links.settings links.linked.configured.reads none
  past_named workers disk (Some (Choice fault)) links none = read_named files shelf_faults words old.shelf new.shelf links.settings links.reads none

  -- a usage is told exactly where the words name no link
  pub link_usage : (workers : List (Worker C L)) (disk : Option D) (failure : Option (Failure LinkFault))
      → LinkComesTo files shelf_faults meaning readings_of dealings words old new before workers disk failure
      → (failure ≡ Some (Opening Usage)) ↔ (words ≡ None)
  link_usage workers disk failure comes =
      usage_of (none_linked workers disk) (one_linked workers disk) words
      (λ fault none.
      let name = named files shelf_faults meaning (HasChosen words) old.shelf before disk (name_in words) new.shelf fault none.cause in
      (λ is. (unnamed words).0 (name.0 is), λ is. name.1 ((unnamed words).1 is)))
      (past_named workers disk) failure comes

  links_told : (workers : List (Worker C L)) (disk : Option D) (errors : E) (fault : Option LinkFault) → one_linked workers disk fault
      → Links files shelf_faults meaning readings_of dealings words old (record new { errors = errors }) before workers disk fault
  links_told workers disk errors None links = record {
    settings = links.settings;
    number = links.number;
    centre = links.centre;
    linked = record { configured = links.linked.configured; chosen = links.linked.chosen };
    held = links.held;
  }
  links_told workers disk errors (Some (Session fault)) links = record {
    settings = links.settings;
    number = links.number;
    centre = links.centre;
    linked = record { configured = links.linked.configured; chosen = links.linked.chosen };
    held = links.held;
  }
  links_told workers disk errors (Some Undialled) links = record {
    settings = links.settings;
    number = links.number;
    centre = links.centre;
    linked = record { configured = links.linked.configured; chosen = links.linked.chosen };
    undialled = links.undialled;
  }
  links_told workers disk errors (Some (Choice fault)) links = record {
    settings = links.settings;
    reads = links.reads;
    why = links.why;
    no_worker = links.no_worker;
    no_disk = links.no_disk;
  }

  -- what is said on standard error changes nothing else
  pub link_told : (workers : List (Worker C L)) (disk : Option D) (failure : Option (Failure LinkFault)) (errors : E)
      → LinkComesTo files shelf_faults meaning readings_of dealings words old new before workers disk failure
      → LinkComesTo files shelf_faults meaning readings_of dealings words old (record new { errors = errors }) before workers disk failure
  link_told workers disk failure errors comes =
      comes_so (none_linked workers disk) (one_linked workers disk) _ _
      (λ fault none. record { no_worker = none.no_worker; cause = none.cause }) (links_told workers disk errors) failure comes

  -- no store stood open
  pub link_ends_closed : (after : Stock) (status : ℕ) (failure : Option (Failure LinkFault)) (disk : Option D) (workers : List (Worker C L)) (why : OpeningFault)
      → new ≡ record old { shelf = new.shelf } → MakesFor disk before after → status ≡ status_of (row_of link_row) failure → failure ≡ Some (Opening why) → workers ≡ []
      → IsNotOpen files shelf_faults meaning (HasChosen words) (name_in words) old.shelf new.shelf before disk why
      → EndsLink files shelf_faults meaning readings_of dealings words old new before after status failure disk workers
  link_ends_closed after status failure disk workers why others made right failed alone cause = record {
    others = others;
    right = right;
    made = made;
    comes_to = subst (λ f. LinkComesTo files shelf_faults meaning readings_of dealings words old new before workers disk f) (sym failed)
        (record { no_worker = alone; cause = cause });
  }

  -- what came of the store of settings, by what the command comes to
  chosen_done : (settings : Settings) (number : ℕ) (centre : LinkSettings) (workers : List (Worker C L)) (disk : Option D) (fault : Option LinkFault)
      → HasLink files shelf_faults meaning readings_of dealings words old new before workers disk settings number centre
      → ServedSo meaning readings_of dealings settings.rules number centre (before.disks settings.core.store_file) before.word workers disk fault
      → one_linked workers disk fault
  chosen_done settings number centre workers disk None linked so = record { settings = settings; number = number; centre = centre; linked = linked; held = so }
  chosen_done settings number centre workers disk (Some (Session fault)) linked so = record { settings = settings; number = number; centre = centre; linked = linked; held = so }
  chosen_done settings number centre workers disk (Some Undialled) linked so = record { settings = settings; number = number; centre = centre; linked = linked; undialled = so }
  chosen_done settings number centre workers disk (Some (Choice fault)) linked so = absurd so

module _
    {V S O E D C L : Type 0} (files : S → Option (List (List ℕ × List ℕ))) (shelf_faults : S → ℕ)
    (meaning : Meaning D) (readings_of : C → Option (List ℕ)) (dealings : L → Dealings)
    (name id : List ℕ) (old mid new : Rooms V S O E) (before between after : Stock) where
  -- no link was chosen
  comes_unchosen : (why : Failure LinkFault) → IsUnchosenIn files shelf_faults meaning name id old.shelf new.shelf before why
      → LinkComesTo files shelf_faults meaning readings_of dealings (Some (name, id)) old new before [] None (Some why)
  comes_unchosen (Opening fault) none = record { no_worker = refl; cause = none }
  comes_unchosen (Own (Choice fault)) none = record { settings = none.0; reads = none.1; why = none.2; no_worker = refl; no_disk = refl }
  comes_unchosen (Own Undialled) none = absurd none
  comes_unchosen (Own (Session fault)) none = absurd none

  pub link_ends_unchosen : (status : ℕ) (failure : Option (Failure LinkFault)) (disk : Option D) (workers : List (Worker C L)) (why : Failure LinkFault)
      → new ≡ record old { shelf = new.shelf } → after ≡ before → status ≡ status_of (row_of link_row) failure → failure ≡ Some why → disk ≡ None → workers ≡ []
      → IsUnchosenIn files shelf_faults meaning name id old.shelf new.shelf before why
      → EndsLink files shelf_faults meaning readings_of dealings (Some (name, id)) old new before after status failure disk workers
  link_ends_unchosen status failure disk workers why others stays right failed none alone cause = record {
    others = others;
    right = right;
    made = subst (λ (d : Option D). MakesFor d before after) (sym none) stays;
    comes_to = subst (λ f. LinkComesTo files shelf_faults meaning readings_of dealings (Some (name, id)) old new before workers disk f) (sym failed)
        (subst (λ (d : Option D). LinkComesTo files shelf_faults meaning readings_of dealings (Some (name, id)) old new before workers d (Some why)) (sym none)
        (subst (λ (ws : List (Worker C L)). LinkComesTo files shelf_faults meaning readings_of dealings (Some (name, id)) old new before ws None (Some why)) (sym alone)
        (comes_unchosen why cause)));
  }

  -- a link was chosen
  pub link_ends : (settings : Settings) (number : ℕ) (status : ℕ) (failure : Option (Failure LinkFault)) (disk : Option D) (workers : List (Worker C L))
      → mid ≡ record old { shelf = mid.shelf } → between ≡ before → IsChosenIn files shelf_faults name id old.shelf mid.shelf settings number
      → ServesChosen meaning readings_of dealings settings number mid new between after status failure disk workers
      → EndsLink files shelf_faults meaning readings_of dealings (Some (name, id)) old new before after status failure disk workers
  link_ends settings number status failure disk workers read stays chosen serves =
      let centre = chosen.chosen.0 in
      let link = chosen.chosen.1 in
      let shelf : new.shelf ≡ mid.shelf = ap (λ r. r.shelf) serves.others in
      let configured : IsConfigured files shelf_faults (Some name) old.shelf new.shelf settings =
      subst (λ (s : S). IsConfigured files shelf_faults (Some name) old.shelf s settings) (sym shelf) (record { reads = chosen.reads; store_file = chosen.store_file }) in
      record {
        others = serves.others ∙ read ∙ ap (λ (s : S). record old { shelf = s }) (sym shelf);
        right = serves.right;
        made = subst (λ s. MakesFor disk s after) stays serves.made;
        comes_to = comes_so (StoresNone meaning readings_of dealings settings before workers disk)
            (ServedSo meaning readings_of dealings settings.rules number centre (before.disks settings.core.store_file) before.word workers disk)
            (LinksNone files shelf_faults meaning readings_of dealings (Some (name, id)) old new before workers disk)
            (Links files shelf_faults meaning readings_of dealings (Some (name, id)) old new before workers disk)
            (λ fault none. record {
              no_worker = none.no_worker;
              cause = subst (λ f. IsNotOpen files shelf_faults meaning (HasChosen (Some (name, id))) (Some name) old.shelf new.shelf before disk f) (sym none.failed)
                  (settings, configured, (number, (centre, link)), none.cause);
            })
            (λ fault so. chosen_done files shelf_faults meaning readings_of dealings (Some (name, id)) old new before settings number centre workers disk fault
            (record { configured = configured; chosen = link }) so)
            failure
            (subst (λ s. ChosenSo meaning readings_of dealings settings number centre s workers disk failure) stays
            (serves.so centre (record { rule = link.rule; there = link.first.there; kind = link.kind; centre_is = link.centre_is })));
      }

module _
    {V S O E D C L : Type 0} (meaning : Meaning D) (readings_of : C → Option (List ℕ)) (dealings : L → Dealings)
    (settings : Settings) (number : ℕ) (old mid new : Rooms V S O E) (before between after : Stock) where
  -- no store stands open
  pub serves_none : (status : ℕ) (failure : Option (Failure LinkFault)) (disk : Option D) (workers : List (Worker C L)) (why : OpeningFault)
      → mid ≡ old → status ≡ status_of (row_of link_row) failure → failure ≡ Some (Opening why) → workers ≡ []
      → OpensNone meaning settings before between why disk
      → ServesChosen meaning readings_of dealings settings number old mid before between status failure disk workers
  serves_none status failure disk workers why same right failed alone opens = record {
    others = same;
    right = right;
    made = opens.made;
    so = λ centre linked.
        subst (λ f. ChosenSo meaning readings_of dealings settings number centre before workers disk f) (sym failed)
        (record { no_worker = alone; fault = opens.fault; failed = opens.failed; cause = opens.cause });
  }

  -- there was no memory for the session
  pub serves_no_memory : (status : ℕ) (failure : Option (Failure LinkFault)) (disk : Option D) (workers : List (Worker C L))
      → status ≡ status_of (row_of link_row) failure → failure ≡ Some (Opening (Store store_is.Memory)) → disk ≡ None → workers ≡ []
      → ServesChosen meaning readings_of dealings settings number old old before before status failure disk workers
  serves_no_memory status failure disk workers right failed none alone = record {
    others = refl;
    right = right;
    made = subst (λ (d : Option D). MakesFor d before before) (sym none) refl;
    so = λ centre linked.
        subst (λ f. ChosenSo meaning readings_of dealings settings number centre before workers disk f) (sym failed)
        (record {
          no_worker = alone;
          fault = store_is.Memory;
          failed = refl;
          cause = subst (λ (d : Option D). IsNoStore meaning (before.disks settings.core.store_file) settings.rules d store_is.Memory) (sym none) refl;
        });
  }

  same_centre : (a b : LinkSettings) (it : Option LinkSettings) → it ≡ Some a → it ≡ Some b → a ≡ b
  same_centre a b it one two = let e : Some a ≡ Some b = sym one ∙ two in cc

  made_some : (disk : Option D) (one : D) → is_some disk ≡ true → MakesFor (Some one) before between → MakesFor disk before between
  made_some None one is made = absurd (let e = is in cc)
  made_some (Some disk) one is made = made

  -- a centre was dialled over the store that was opened
  pub serves_opened : (centre : LinkSettings) (store : Stored D) (status : ℕ) (failure : Option (Failure LinkFault)) (disk : Option D) (workers : List (Worker C L))
      → mid ≡ old → slice_get settings.links number ≡ Some centre → OpensStore meaning settings before between store
      → ServesLink meaning readings_of dealings number centre mid new between after store status failure disk workers
      → ServesChosen meaning readings_of dealings settings number old new before after status failure disk workers
  serves_opened centre store status failure disk workers same there opens serves = record {
    others = serves.others ∙ same;
    right = serves.right;
    made = subst (λ s. MakesFor disk before s) (sym serves.stock) (made_some disk opens.disk serves.back opens.made);
    so = λ other linked.
        subst (λ c. ChosenSo meaning readings_of dealings settings number c before workers disk failure) (same_centre centre other (slice_get settings.links number) there linked.centre_is)
        (subst (λ f. ChosenSo meaning readings_of dealings settings number centre before workers disk f) (sym serves.failed)
        (comes_done (StoresNone meaning readings_of dealings settings before workers disk)
        (ServedSo meaning readings_of dealings settings.rules number centre (before.disks settings.core.store_file) before.word workers disk) serves.fault
        (serves.served settings.rules (before.disks settings.core.store_file) before.word opens.birth opens.disk opens.told opens.new_disk opens.opened)));
  }
