use Rattle.std.proofs.Common.{◌≡◌, ℕ, ◌-◌, List, ◌∷◌, length, drop, take, arith, ◌∙◌, sym, ap, subst, refl}
use Rattle.store_journal.specs.Area.{payloads_in}
use Rattle.store_journal.specs.Opening.{IsFirstUnit, IsNoUnit}
use Rattle.store_journal.proofs.Units.{step, step_far, stop}
use Rattle.store_journal.proofs.Kept.{handed_on}
use Rattle.store_journal.proofs.journal.Journal.next.Goals as goal

pub returns-in_default-clause-next : goal.returns-in_default-clause-next
returns-in_default-clause-next g c =
    let place = c.args.self.now.place in
    let none : IsNoUnit (take (length c.deref.result.now - place) (drop place c.deref.result.now)) = rw c.in_default.is at c.in_ok-payload.ensures in
    let ended = stop c.args.self.now.octets.items place (subst (λ (l : List ℕ). IsNoUnit (take (length l - place) (drop place l))) c.deref.ensures.value none) in (ended, ended)

pub returns-clause-next : goal.returns-clause-next
returns-clause-next g c =
    let octets = c.args.self.now.octets.items in
    let place = c.args.self.now.place in
    let payload = c.in-Some.payload.now in
    let behind = c.in-Some.behind.now in
    let one : IsFirstUnit (take (length c.deref.result.now - place) (drop place c.deref.result.now)) payload behind = rw c.in-Some.is at c.in_ok-payload.ensures in
    let place_now : length octets - length behind ≡ c.len.result - length behind = omega (arith, c.len.ensures, c.deref.ensures.len, ap length c.deref.ensures.value) in
    step octets place payload behind (subst (λ (l : List ℕ). IsFirstUnit (take (length l - place) (drop place l)) payload behind) c.deref.ensures.value one)
    ∙ (λ i. sym c.in_ok-payload-2.ensures i ∷ payloads_in (drop (place_now i) octets))

pub returns-clause-gate : goal.returns-clause-gate
returns-clause-gate g c =
    let octets = c.args.self.now.octets.items in
    let place = c.args.self.now.place in
    let payload = c.in-Some.payload.now in
    let behind = c.in-Some.behind.now in
    let one : IsFirstUnit (take (length c.deref.result.now - place) (drop place c.deref.result.now)) payload behind = rw c.in-Some.is at c.in_ok-payload.ensures in
    let far = step_far octets place payload behind c.requires.3.place (subst (λ (l : List ℕ). IsFirstUnit (take (length l - place) (drop place l)) payload behind) c.deref.ensures.value one) in
    (refl, omega (arith, far, c.len.ensures, c.deref.ensures.len, ap length c.deref.ensures.value, ap length c.in_ok-payload-2.ensures))

pub returns-clause-same : goal.returns-clause-same
returns-clause-same g c = λ birth payloads unsure is.
    handed_on g.D.Disk.meaning c.args.self.now _ birth payloads unsure is c.in_ok-payload-2.payload (returns-clause-next g c) refl refl
    (omega (arith, c.len.ensures, c.deref.ensures.len, ap length c.deref.ensures.value)) refl refl refl refl

pub returns-clause-kept : goal.returns-clause-kept
returns-clause-kept g c = (c.requires.0, c.requires.1, c.requires.2, returns-clause-same g c c.requires.0 c.requires.1 c.requires.2 c.requires.3)
