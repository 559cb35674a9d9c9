-- The text that is printed, put together, and what came of giving it.
use Rattle.std.proofs.Common.{◌≡◌, ℕ, ◌<◌, ◌≤◌, List, ◌++◌, append_assoc, codes, decimal, ap, sym, ◌∙◌, arith, subst, inl, inr}
use Rattle.std.specs.Prelude.{◌⊎◌}
use Rattle.kn_base.specs.Count.{Counts, Rose, last_count}
use Rattle.kn_base.specs.Course.{Course}
use Rattle.kn_base.specs.Talk.{SaysFront}
use Rattle.boxes_main.specs.Show.{row}

-- octets behind others, which are some that are known
pub behind : {after before : List ℕ} (octets front : List ℕ) → after ≡ before ++ octets → before ≡ front → after ≡ front ++ octets
behind octets front e f = e ∙ ap (λ x. x ++ octets) f

-- a line behind others, from its parts
row-parts : (front name : List ℕ) (count : ℕ) → (((front ++ name) ++ codes " ") ++ decimal count) ++ codes "\n" ≡ front ++ row name count
row-parts front name count = simp append_assoc

pub row-behind : (front name : List ℕ) (count : ℕ) (a b c d digits : List ℕ) → a ≡ front ++ name → b ≡ a ++ codes " " → c ≡ b ++ digits → digits ≡ decimal count
    → d ≡ c ++ codes "\n" → d ≡ front ++ row name count
row-behind front name count a b c d digits named spaced counted same ended =
    ended ∙ ap (λ x. x ++ codes "\n") (counted ∙ ap (λ x. b ++ x) same ∙ ap (λ x. x ++ decimal count) (spaced ∙ ap (λ x. x ++ codes " ") named)) ∙ row-parts front name count

-- what failed was no want of memory, so it was a fault
fault_of : (starved now faults faults_now : ℕ) → Rose faults faults_now ⊎ Rose starved now → now ≤ starved → starved < last_count → Rose faults faults_now
fault_of starved now faults faults_now (inl rose) same below = rose
fault_of starved now faults faults_now (inr rose) same below = absurd (omega (arith, rose, same, below))

-- the counts between a front and the give that failed are those before it
counts_between : (text : List ℕ) (gone : ℕ) (old new : Course) (f : SaysFront text gone old new) → f.between.counts ≡ old.counts
counts_between text gone old new f = ap (λ c. c.counts) f.front.after

-- a front was given, and a fault was counted, where no want of memory was
pub faulted : (text : List ℕ) (gone starved now : ℕ) (old new : Course) → SaysFront text gone old new → starved ≡ old.counts.starved → now ≡ new.counts.starved
    → now ≤ starved → starved < last_count → Rose old.counts.faults new.counts.faults
faulted text gone starved now old new f was is same below =
    let cause = subst (λ (counts : Counts). Rose counts.faults new.counts.faults ⊎ Rose counts.starved new.counts.starved) (counts_between text gone old new f) f.fails.counts.cause in
    fault_of starved now old.counts.faults new.counts.faults
    (subst (λ n. Rose old.counts.faults new.counts.faults ⊎ Rose n now) (sym was)
    (subst (λ n. Rose old.counts.faults new.counts.faults ⊎ Rose old.counts.starved n) (sym is) cause)) same below
