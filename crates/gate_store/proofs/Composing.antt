-- The steps of a commit, one behind the other.
use Rattle.std.proofs.Common.{◌≡◌, ◌+◌, ◌⊎◌, inl, inr, ⊎_elim, ℕ, Option, Some, None, Result, Ok, Err, ap, sym, ◌∙◌, subst, arith}
use Rattle.std.specs.Prelude.{OnOk, OnErr, IfOk, is_ok, if◌then◌else◌}
use Rattle.kn_base.specs.Count.{Rose}
use Rattle.gate_entries.specs.declared.recorded.Recorded.{Recorded}
use Rattle.gate_model.specs.Fold.{does, recorded}
use Rattle.gate_model.specs.Gate.{model_of, rules_of}
use Rattle.gate_model.specs.Lawful.{refusal}
use Rattle.gate_model.specs.Replies.{reply_to}
use Rattle.gate_model.specs.Settling.{settle}
use Rattle.gate_model.specs.State.{State}
use Rattle.gate_model.specs.declared.reply.Refusal.TheVariants.{Disk}
use Rattle.gate_model.specs.declared.reply.Reply.{Reply}
use Rattle.route_rules.specs.declared.rules.Rules.{Rules}
use Rattle.store_disk.specs.Disk.{Areas}
use Rattle.store_disk.specs.Meaning.{Meaning}
use Rattle.store_disk.specs.declared.disk.DiskFailed.{DiskFailed}
use Rattle.gate_store.specs.Deeds.{Performs, repair_calls}
use Rattle.gate_store.specs.Reopening.{MayReopenIn}
use Rattle.gate_store.specs.Store.{IsStore, birth_in, disk_in, rules_in, state_in, unsure_in}
use Rattle.gate_store.specs.StoreSteps.{Commits, Settles}
use Rattle.gate_store.specs.declared.store.Store.{Store}
use Rattle.gate_store.proofs.Committing.{failed_as, surely}
use Rattle.gate_store.proofs.Reopened.{settle-behind}
use Rattle.std.proofs.lemmas.List.{append-nil}
use Rattle.gate_store.proofs.Told.{told_leaves_weaker, told_leaves_both}

module _ {D : Type 0} (meaning : Meaning D) (old mid new : Store D) (entry : Recorded) where
  -- the disk failed before anything was appended
  pub commits_not : {T : Type 0} (failed : DiskFailed) → Settles meaning old (failed_as T failed) new
      → Commits meaning (repair_calls (unsure_in old) + 4) old entry (Err failed) new
  commits_not failed settles = record {
    reply = tt;
    ruled = ap rules_of settles.gate;
    born = settles.born;
    state = ap model_of settles.gate;
    sure = tt;
    unsure = inl settles.unsure;
    holds = λ birth entries is. subst (IsStore meaning new birth) (sym (append-nil entries)) (settles.holds birth entries is);
    stops = told_leaves_weaker meaning.tells (meaning.story (disk_in old)) (meaning.story (disk_in new)) _ _ (λ image may. inl may) settles.stops;
    unfailed = tt;
    failed = settles.failed;
    kept = settles.kept;
    bounded = let most = settles.bounded in omega arith;
  }

  -- what a stop behind a repair leaves, of the state before it
  stops_behind : birth_in mid ≡ birth_in old → rules_in mid ≡ rules_in old → state_in mid ≡ state_in old → unsure_in mid ≡ None → (image : Areas)
      → MayReopenIn (birth_in mid) (rules_in mid) (state_in mid) (unsure_in mid) entry image → MayReopenIn (birth_in old) (rules_in old) (state_in old) (unsure_in old) entry image
  stops_behind born ruled state sure image may =
      let there = subst (λ (u : Option Recorded). MayReopenIn (birth_in old) (rules_in old) (state_in old) u entry image) sure
      (subst (λ (s : State). MayReopenIn (birth_in old) (rules_in old) s (unsure_in mid) entry image) state
      (subst (λ (r : Rules). MayReopenIn (birth_in old) r (state_in mid) (unsure_in mid) entry image) ruled
      (subst (λ b. MayReopenIn b (rules_in mid) (state_in mid) (unsure_in mid) entry image) born may))) in
      ⊎_elim (λ before. inl (surely (birth_in old) (rules_in old) (state_in old) (unsure_in old) image before)) (λ with_it. inr with_it) there

  -- a fault behind a repair rose
  pub rose_behind : (a b c : ℕ) → b ≡ a → Rose b c → Rose a c
  rose_behind a b c same rose = subst (λ n. Rose n c) same rose

  -- what may be unsure behind a repair
  unsure_behind : (outcome : Result Reply DiskFailed) → unsure_in mid ≡ None
      → OnErr outcome ((unsure_in new ≡ unsure_in mid) ⊎ (unsure_in new ≡ None) ⊎ (unsure_in new ≡ Some entry))
      → OnErr outcome ((unsure_in new ≡ unsure_in old) ⊎ (unsure_in new ≡ None) ⊎ (unsure_in new ≡ Some entry))
  unsure_behind (Ok reply) sure now = tt
  unsure_behind (Err failed) sure now = ⊎_elim (λ same. inr (inl (same ∙ sure))) (λ other. inr other) now

  -- what was unsure was taken back, and then the entry was appended, or the disk failed
  pub commits_behind : {T : Type 0} (done : T) (outcome : Result Reply DiskFailed) → Settles meaning old (Ok done) mid
      → Commits meaning 4 mid entry outcome new → Commits meaning (repair_calls (unsure_in old) + 4) old entry outcome new
  commits_behind done outcome settles commits =
      let ruled : rules_in mid ≡ rules_in old = ap rules_of settles.gate in
      let state : state_in mid ≡ state_in old = ap model_of settles.gate in
      record {
        reply = subst (λ (s : State). IfOk outcome (λ reply. reply ≡ reply_to (rules_in old) s entry)) state
            (subst (λ (r : Rules). IfOk outcome (λ reply. reply ≡ reply_to r (state_in mid) entry)) ruled commits.reply);
        ruled = commits.ruled ∙ ruled;
        born = commits.born ∙ settles.born;
        state = commits.state ∙ ap (λ b. if is_ok outcome then does b (state_in mid) (recorded entry) else state_in mid) settles.born
            ∙ ap (λ (s : State). if is_ok outcome then does (birth_in old) s (recorded entry) else s) state;
        sure = commits.sure;
        unsure = unsure_behind outcome settles.sure commits.unsure;
        holds = λ birth entries is. commits.holds birth entries (settles.holds birth entries is);
        stops = told_leaves_both meaning.tells (meaning.story (disk_in old)) (meaning.story (disk_in mid)) (meaning.story (disk_in new)) _
            (told_leaves_weaker meaning.tells (meaning.story (disk_in old)) (meaning.story (disk_in mid)) _ _ (λ image may. inl may) settles.stops)
            (told_leaves_weaker meaning.tells (meaning.story (disk_in mid)) (meaning.story (disk_in new)) _ _ (stops_behind settles.born ruled state settles.sure) commits.stops);
        unfailed = subst (λ n. OnOk outcome (meaning.faults (disk_in new) ≡ n)) settles.unfailed commits.unfailed;
        failed = subst (λ n. OnErr outcome (Rose n (meaning.faults (disk_in new)))) settles.unfailed commits.failed;
        kept = let first = settles.kept in let then_ = commits.kept in omega arith;
        bounded = let first = settles.bounded in let then_ = commits.bounded in omega arith;
      }

  -- what was committed was performed
  pub performs_ok : (reply : Reply) → refusal (rules_in old) (state_in old) entry ≡ None → Commits meaning (repair_calls (unsure_in old) + 4) old entry (Ok reply) new
      → Performs meaning old entry (Ok reply) new
  performs_ok reply taken commits = record {
    reason = (taken, commits.reply);
    ruled = commits.ruled;
    born = commits.born;
    state = commits.state;
    unsure = commits.sure;
    holds = commits.holds;
    stops = commits.stops;
    counted = commits.unfailed;
    bounded = commits.bounded;
    settled = ap settle commits.state ∙ settle-behind (birth_in old) (state_in old) entry (Ok reply);
    untried = tt;
  }

  -- the disk failed
  pub performs_err : (failed : DiskFailed) → refusal (rules_in old) (state_in old) entry ≡ None → Commits meaning (repair_calls (unsure_in old) + 4) old entry (Err failed) new
      → Performs meaning old entry (Err Disk) new
  performs_err failed taken commits = record {
    reason = taken;
    ruled = commits.ruled;
    born = commits.born;
    state = commits.state;
    unsure = commits.unsure;
    holds = commits.holds;
    stops = commits.stops;
    counted = (commits.failed, commits.kept);
    bounded = commits.bounded;
    settled = ap settle commits.state;
    untried = tt;
  }
