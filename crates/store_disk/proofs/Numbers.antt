-- The calls of a disk in memory are numbered.
use Rattle.std.proofs.Common.{◌≡◌, inl, inr, ℕ, ◌+◌, ◌≤◌, ◌<◌, Bool, true, false, ◌==◌, ◌&&◌, ◌||◌, cond, List, [], ◌∷◌, length, refl, sym, ◌∙◌, ap, subst, arith}
use Rattle.std.specs.Prelude.{if◌then◌else◌}
use Rattle.std.proofs.lemmas.Bool.{le-ltb, lt-ltb, eq-eqb, ne_eqb}
use Rattle.std.proofs.Math.Bool.{and-true}
use Rattle.std.specs.List.{AllByRecursion}
use Rattle.kn_base.specs.Count.{last_count, next_count}
use Rattle.store_disk.specs.MemDisk.{mem_calls, mem_log}
use Rattle.store_disk.specs.Stop.{moment_at, is_later, is_synced, NotesOne, NumbersCall}
use Rattle.store_disk.specs.declared.entry.Entry.{Entry}
use Rattle.store_disk.specs.declared.mem_disk.MemDisk.{MemDisk}

later : (old new : ℕ) (log : List Entry) → old ≤ new → AllByRecursion (λ entry. next_count entry.call ≤ old) log → AllByRecursion (λ entry. next_count entry.call ≤ new) log
later old new [] le all = tt
later old new (entry ∷ log) le all = (omega (arith, le, all.0), later old new log le all.1)

none_both : (b : Bool) → (b && false) ≡ false
none_both true = refl
none_both false = refl

-- an entry of an earlier call
not_later : (call : ℕ) (entry : Entry) → entry.call < call → is_later call entry ≡ false
not_later call entry lt =
    ap (λ b. b || (is_synced entry.deed && entry.call == call)) (le-ltb call entry.call (omega (arith, lt)))
    ∙ ap (λ b. is_synced entry.deed && b) (ne_eqb entry.call call (λ same. absurd (omega (arith, lt, same))))
    ∙ none_both (is_synced entry.deed)

-- an entry of a later one
is_after : (call : ℕ) (entry : Entry) → call < entry.call → is_later call entry ≡ true
is_after call entry lt = ap (λ b. b || (is_synced entry.deed && entry.call == call)) (lt-ltb call entry.call lt)

-- one of the same call
same_call : (call : ℕ) (entry : Entry) → entry.call ≡ call → is_later call entry ≡ is_synced entry.deed
same_call call entry same =
    ap (λ b. b || (is_synced entry.deed && entry.call == call)) (le-ltb call entry.call (omega (arith, same)))
    ∙ ap (λ b. is_synced entry.deed && b) (eq-eqb entry.call call same)
    ∙ and-true (is_synced entry.deed)

-- where all entries are of calls before a number, its moment is at their end
at_end : (call : ℕ) (log : List Entry) → AllByRecursion (λ entry. entry.call < call) log → moment_at call log ≡ length log
at_end call [] all = refl
at_end call (entry ∷ log) all = ap (λ b. cond b (moment_at call log) (length log + 1)) (not_later call entry all.0) ∙ omega arith

before_end : (made : ℕ) (log : List Entry) → made < last_count → AllByRecursion (λ entry. next_count entry.call ≤ made) log → AllByRecursion (λ entry. entry.call < made) log
before_end made [] lt all = tt
before_end made (entry ∷ log) lt all = (omega (arith, lt, all.0), before_end made log lt all.1)

-- a log that a call leaves, or to which it adds an entry under its number
noted : (syncs : Bool) (made : ℕ) (old new : List Entry) → NotesOne syncs made old new → made ≤ next_count made
    → AllByRecursion (λ entry. next_count entry.call ≤ made) old → AllByRecursion (λ entry. next_count entry.call ≤ next_count made) new
noted syncs made old new (inl same) le all = subst (AllByRecursion (λ entry. next_count entry.call ≤ next_count made)) (sym same) (later made (next_count made) old le all)
noted syncs made old new (inr more) le all = subst (AllByRecursion (λ entry. next_count entry.call ≤ next_count made)) (sym more.1)
    (let same = more.2 in omega (arith, same), later made (next_count made) old le all)

-- a stop in that call
this_moment : (syncs : Bool) (made : ℕ) (old new : List Entry) → NotesOne syncs made old new → made < last_count → AllByRecursion (λ entry. next_count entry.call ≤ made) old
    → moment_at made new ≡ length (if syncs then old else new)
this_moment true made old new (inl same) lt all = ap (moment_at made) same ∙ at_end made old (before_end made old lt all)
this_moment false made old new (inl same) lt all = ap (moment_at made) same ∙ at_end made old (before_end made old lt all) ∙ ap length (sym same)
this_moment true made old new (inr more) lt all =
    ap (moment_at made) more.1
    ∙ ap (λ b. cond b (moment_at made old) (length old + 1)) (same_call made more.0 more.2 ∙ more.3)
    ∙ at_end made old (before_end made old lt all)
this_moment false made old new (inr more) lt all =
    ap (moment_at made) more.1
    ∙ ap (λ b. cond b (moment_at made old) (length old + 1)) (same_call made more.0 more.2 ∙ more.3)
    ∙ sym (ap length more.1 ∙ omega arith)

-- and in one before it
before : (syncs : Bool) (made call : ℕ) (old new : List Entry) → NotesOne syncs made old new → call < made → moment_at call new ≡ moment_at call old
before syncs made call old new (inl same) lt = ap (moment_at call) same
before syncs made call old new (inr more) lt =
    let number = more.2 in
    ap (moment_at call) more.1 ∙ ap (λ b. cond b (moment_at call old) (length old + 1)) (is_after call more.0 (omega (arith, lt, number)))

log_by : (syncs : Bool) (old new : MemDisk) → length (if syncs then mem_log old else mem_log new) ≡ length (mem_log (if syncs then old else new))
log_by true old new = refl
log_by false old new = refl

-- one call more
pub numbers : (syncs : Bool) (old new : MemDisk) → (mem_calls old).made ≤ last_count → (mem_calls new).made ≡ next_count (mem_calls old).made
    → NotesOne syncs (mem_calls old).made (mem_log old) (mem_log new) → NumbersCall syncs old new
numbers syncs old new within counted notes =
    let made = (mem_calls old).made in
    let made_now = (mem_calls new).made in
    let goes_on : made ≤ next_count made = omega (arith, within) in
    record {
      numbered = λ all. subst (λ n. AllByRecursion (λ entry. next_count entry.call ≤ n) (mem_log new)) (sym counted) (noted syncs made (mem_log old) (mem_log new) notes goes_on all);
      this = λ all lt.
          ap (λ b. cond b (moment_at made (mem_log new)) (length (mem_log new))) (lt-ltb made made_now (omega (arith, lt, counted)))
          ∙ this_moment syncs made (mem_log old) (mem_log new) notes lt all
          ∙ log_by syncs old new;
      earlier = λ call lt.
          ap (λ b. cond b (moment_at call (mem_log new)) (length (mem_log new))) (lt-ltb call made_now (omega (arith, lt, goes_on, counted)))
          ∙ before syncs made call (mem_log old) (mem_log new) notes lt
          ∙ ap (λ b. cond b (moment_at call (mem_log old)) (length (mem_log old))) (sym (lt-ltb call made lt));
    }
