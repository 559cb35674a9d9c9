-- Counts that don't fall.
use Rattle.std.proofs.Common.{◌≡◌, ap, sym, subst, arith}
use Rattle.kn_base.specs.Count.{Counts, NoneFell, CountsFailure}

pub fell_same : (a b : Counts) → b ≡ a → NoneFell a b
fell_same a b same = subst (NoneFell a) (sym same) (record { faults = omega arith; starved = omega arith; quiets = omega arith })

pub fell_then : (a b c : Counts) → NoneFell a b → NoneFell b c → NoneFell a c
fell_then a b c one two = record {
  faults = omega (arith, one.faults, two.faults);
  starved = omega (arith, one.starved, two.starved);
  quiets = omega (arith, one.quiets, two.quiets);
}

-- nor in a call that failed
pub failure_fell : (a b : Counts) → CountsFailure a b → NoneFell a b
failure_fell a b f = record { faults = f.faults; starved = f.starved; quiets = omega (arith, ap (λ (d : Counts). d.quiets) f.same) }
