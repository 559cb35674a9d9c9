-- What became of the messages of a store.
use Rattle.std.proofs.Common.{◌≡◌, refl, ℕ, List, [], ◌∷◌, ◌++◌, map, length, sym, ap, ◌∙◌, subst}
use Rattle.std.proofs.lemmas.List.{map-append}
use Rattle.std.proofs.lemmas.List.Sums.{fold-append}
use Rattle.gate_entries.specs.declared.recorded.Recorded.{Recorded}
use Rattle.gate_model.specs.Fates.{AreSound, AddUp, HaveFates}
use Rattle.gate_model.specs.Due.{HaveReports, urls_of}
use Rattle.gate_model.specs.Fold.{after, does, recorded}
use Rattle.gate_model.specs.Settling.{settle, free_job}
use Rattle.gate_model.specs.Numbers.{with_changes}
use Rattle.gate_model.specs.declared.job.Job.{Job}
use Rattle.gate_model.specs.State.{State, totals_of}
use Rattle.gate_model.specs.declared.totals.Totals.{Totals}
use Rattle.gate_model.proofs.DueLaws.{have_reports}
use Rattle.gate_model.proofs.FatesLaws.{fates_since_birth}
use Rattle.gate_model.proofs.OrderLemmas.{IsInOrder-after, IsInOrder-empty}
use Rattle.gate_model.proofs.SettlingLaws.{totals-settle}
use Rattle.store_disk.specs.Meaning.{Meaning}
use Rattle.gate_store.specs.Entries.{start, state_of, AreInTurn}
use Rattle.gate_store.specs.Store.{IsStore, rules_in, state_in}
use Rattle.gate_store.specs.declared.store.Store.{Store}

-- entries in their turn are sound
sound_in_turn : (birth : ℕ) (state : State) (entries : List Recorded) → AreInTurn birth state entries → AreSound birth state (map recorded entries)
sound_in_turn birth state [] turn = tt
sound_in_turn birth state (kept ∷ entries) turn = (turn.0.sound, sound_in_turn birth (does birth state (recorded kept)) entries turn.1)

module _ {D : Type 0} (meaning : Meaning D) (store : Store D) where
  -- each message that was accepted has one fate
  pub fates_by : (birth : ℕ) (entries : List Recorded) → IsStore meaning store birth entries → HaveFates birth (start (rules_in store)) (map recorded entries)
  fates_by birth entries is = fates_since_birth birth (length (rules_in store).links) (map recorded entries) (sound_in_turn birth (start (rules_in store)) entries is.in_turn)

  -- and all of them are counted
  pub counted_by : (totals : Totals) → totals ≡ totals_of (state_in store) → (birth : ℕ) (entries : List Recorded) → IsStore meaning store birth entries → AddUp totals
  counted_by totals counts birth entries is =
      subst AddUp (ap totals_of (sym is.state) ∙ totals-settle (state_in store) ∙ sym counts) (fates_by birth entries is).counted

-- entries behind others in their turn are in their turn
in_turn_behind : (birth : ℕ) (state : State) (before later : List Recorded) → AreInTurn birth state (before ++ later) → AreInTurn birth (after birth state (map recorded before)) later
in_turn_behind birth state [] later turn = turn
in_turn_behind birth state (kept ∷ before) later turn = in_turn_behind birth (does birth state (recorded kept)) before later turn.1

after_both : (birth : ℕ) (state : State) (before later : List Recorded)
    → after birth state (map recorded (before ++ later)) ≡ after birth (after birth state (map recorded before)) (map recorded later)
after_both birth state before later =
    ap (after birth state) (map-append recorded before later) ∙ fold-append (does birth) state (map recorded before) (map recorded later)

abbrev url_under : ℕ × Job → ℕ × List ℕ
url_under pair = (pair.0, pair.1.url)

-- the URLs of jobs stay when a store is opened again
urls-settle : (state : State) → urls_of (settle state) ≡ urls_of state
urls-settle state = same state.jobs
  where
    same : (jobs : List (ℕ × Job)) → map url_under (with_changes free_job jobs) ≡ map url_under jobs
    same [] = refl
    same (job ∷ jobs) = ap (λ (urls : List (ℕ × List ℕ)). url_under job ∷ urls) (same jobs)

module _ {D : Type 0} (meaning : Meaning D) (store : Store D) where
  -- what a store awaits, and which jobs it holds, follows from its entries
  pub reports_by : (birth : ℕ) (before later : List Recorded) → IsStore meaning store birth (before ++ later)
      → HaveReports birth (state_of birth (rules_in store) before) later (state_in store)
  reports_by birth before later is =
      let first = state_of birth (rules_in store) before in
      let turn = in_turn_behind birth (start (rules_in store)) before later is.in_turn in
      let order = IsInOrder-after birth (start (rules_in store)) (map recorded before) (IsInOrder-empty (length (rules_in store).links)) in
      let have = have_reports birth first later order (sound_in_turn birth first later turn) in
      let same : settle (state_in store) ≡ after birth first (map recorded later) = is.state ∙ after_both birth (start (rules_in store)) before later in
      record {
        awaited = λ smsc foreign. ap (λ (s : State). s.awaited smsc foreign) same ∙ have.awaited smsc foreign;
        jobs = sym (urls-settle (state_in store)) ∙ ap urls_of same ∙ have.jobs;
      }
