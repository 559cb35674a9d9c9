-- A store on which an entry passes, and from which a link takes a message.
use Rattle.std.proofs.Common.{◌≡◌, ap, sym, ◌∙◌, subst}
use Rattle.gate_entries.specs.declared.passing.Passing.{Passing}
use Rattle.gate_model.specs.Fold.{passes}
use Rattle.gate_model.specs.Gate.{IsGate, model_of, rules_of}
use Rattle.gate_model.specs.Settling.{settle}
use Rattle.gate_model.proofs.SettlingLaws.{settle-passes}
use Rattle.store_disk.specs.Meaning.{Meaning}
use Rattle.store_journal.specs.Journal.{HoldsSame, left}
use Rattle.store_journal.specs.declared.journal.Journal.{Journal}
use Rattle.gate_store.specs.Deeds.{Passes}
use Rattle.gate_store.specs.Store.{birth_in, disk_in, rules_in, state_in, unsure_in}
use Rattle.gate_store.specs.declared.store.Store.{Store}
use Rattle.gate_store.proofs.Recording.{holds_on}

module _ {D : Type 0} (meaning : Meaning D) (old new : Store D) where
  -- what passes changes nothing that is kept
  pub passed : (brief : Passing) → new ≡ record old { gate = new.gate } → IsGate new.gate → rules_of new.gate ≡ rules_in old
      → model_of new.gate ≡ passes brief (state_in old) → Passes meaning old brief new
  passed brief same whole ruled state =
      let journal : new.journal ≡ old.journal = ap (λ (s : Store D). s.journal) same in
      record {
        ruled = ruled;
        born = ap birth_in same;
        state = state;
        settled = ap settle state ∙ settle-passes (state_in old) brief;
        unsure = ap unsure_in same;
        disk = ap disk_in same;
        holds = holds_on meaning old new
            (subst (λ (j : Journal D). HoldsSame meaning old.journal j) (sym journal) (λ b p u held. held))
            (ap left journal) ruled (ap settle state ∙ settle-passes (state_in old) brief) (ap unsure_in same) whole;
      }
