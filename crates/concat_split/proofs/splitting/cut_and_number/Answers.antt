use Rattle.std.proofs.Common.{◌≡◌, ◌≤◌, ℕ, List, length, map, ap, ◌∙◌, arith}
use Rattle.concat_split.specs.declared.part.Part.{Part}
use Rattle.concat_split.specs.Characters.{characters}
use Rattle.concat_split.specs.Parts.{texts, alone, numbered}
use Rattle.concat_split.proofs.Texts.{length-texts, length-alone, bodies-alone}
use Rattle.concat_split.proofs.splitting.cut_and_number.Goals as goal
use Rattle.concat_split.proofs.splitting.cut_and_number.Goals.{then-limits, else-limits}

pub number-requires : goal.number-requires
number-requires c =
    let all = texts c.args.coding c.args.room c.args.limits.now c.args.limits.now.parts (characters c.args.coding c.args.body.now) in
    let made : c.in_ok-parts.parts.items ≡ alone all = c.in_ok-parts.ensures in
    let count : length all ≤ c.args.limits.now.parts = length-texts c.args.coding c.args.room c.args.limits.now c.args.limits.now.parts (characters c.args.coding c.args.body.now) in
    let below : c.args.limits.now.parts ≤ 100 = c.requires.few in
    let size : length c.in_ok-parts.parts.items ≡ length all = ap length made ∙ length-alone all in
    omega arith

pub returns : goal.returns
returns c =
    let all = texts c.args.coding c.args.room c.args.limits.now c.args.limits.now.parts (characters c.args.coding c.args.body.now) in
    let made : c.in_ok-parts.parts.items ≡ alone all = c.in_ok-parts.ensures in
    elim c.if-limits.branch [
      | then-limits w ↦
          let same : c.if-limits.parts.items ≡ numbered (length all) 1 all =
          ap (λ v. v.items) w.parts-is ∙ w.number.ensures
          ∙ ap (λ (ps : List Part). numbered (length ps) 1 (map (λ (p : Part). p.body) ps)) made
          ∙ ap (λ (n : ℕ). numbered n 1 (map (λ (p : Part). p.body) (alone all))) (length-alone all)
          ∙ ap (numbered (length all) 1) (bodies-alone all) in
          rw w.if-limits.true same
      | else-limits w ↦
          let same : c.if-limits.parts.items ≡ alone all = ap (λ v. v.items) w.parts-is ∙ made in
          rw w.if-limits.false same
    ]
