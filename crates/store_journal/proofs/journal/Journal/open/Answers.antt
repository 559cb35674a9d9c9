use Rattle.std.proofs.Common.{◌≡◌, ◌-◌, ℕ, List, [], length, take, drop, refl, arith, ap}
use Rattle.store_journal.proofs.journal.Journal.open.Goals as goal

pub returns-in-Ok-clause-opened : goal.returns-in-Ok-clause-opened
returns-in-Ok-clause-opened g c =
    let found = c.in-Ok.ensures.found in
    let none : take (length c.new.result.items - 6) (drop 5 c.new.result.items) ≡ [] = ap (λ (l : List ℕ). take (length l - 6) (drop 5 l)) c.new.ensures.items in
    record {
      handed = [];
      born = refl;
      small = found.small;
      sizes = found.sizes;
      split = refl;
      place = found.place;
      end = found.end;
      bounded = found.bounded;
      ready = λ more. absurd (omega (arith, ap length none));
      fits = λ more. absurd (omega (arith, ap length none));
      doubt = refl;
      kept = found.kept;
    }
