use Rattle.std.proofs.Common.{◌≡◌, ◌≤◌, ◌<◌, ℕ, List, [], length, drop, sym, subst, arith}
use Rattle.std.proofs.lemmas.List.{take_rest}
use Rattle.concat_split.specs.Characters.{characters, units_of, IsFirst, Cuts}
use Rattle.concat_split.specs.Parts.{front, broken}
use Rattle.concat_split.proofs.Fronts.{scans_end, scans_full, scans_all}
use Rattle.concat_split.proofs.characters.broken_len.Goals as goal
use Rattle.concat_split.proofs.characters.broken_len.Goals.{else-loop-at-test, then-loop-at-test+then-units-left}

pub returns : goal.returns
returns c =
    let text = c.args.text.now in
    let coding = c.args.coding in
    let at = c.loop-at.at in
    let left = c.loop-at.left in
    let none : front coding left (characters coding (drop at text)) ≡ [] =
    elim c.loop-at-test.branch [
      | else-loop-at-test w ↦
          let past : length text ≤ at = omega arith in
          scans_all coding text at left past
      | then-loop-at-test+then-units-left w ↦
          let first = subst (λ (t : List ℕ). IsFirst (characters coding) t w.first_len-len.result) (take_rest text at) w.first_len-len.ensures in
          let over : left < units_of coding w.first_len-len.result = subst (λ (n : ℕ). left < n) w.units_of-units.ensures w.if-units-left.true in
          scans_full coding text at left w.first_len-len.result first over
    ] in
    let whole = scans_end coding text c.args.room (characters coding c.args.separators.now) at left c.loop-at.found c.loop-at.invariant none in
    subst (λ (n : ℕ). Cuts coding text (broken (characters coding c.args.separators.now) (front coding c.args.room (characters coding text))) n) (sym c.unwrap_or.ensures) whole
