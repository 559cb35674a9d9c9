use Rattle.std.proofs.Common.{◌≡◌, ◌<◌, ◌++◌, ◌-◌, [], ◌∷◌, ℕ, true, false, List, take, sym, subst, arith, rules, inl, inr}
use Rattle.std.proofs.lemmas.List.{take_rest}
use Rattle.concat_split.specs.Parts.{wrapped, alone}
use Rattle.concat_split.proofs.Texts.{Cutting, cutting_more, cutting_end, last_test}
use Rattle.concat_split.proofs.splitting.cut.Goals as goal
use Rattle.concat_split.proofs.splitting.cut.Goals.{then-loop-left-test+else-not-is_last, else-loop-left-test}

pub loop-left-preserved : goal.loop-left-preserved
loop-left-preserved c =
    let rest = c.loop-left.rest.now in
    let len = c.part_len-len.result in
    let limits = c.args.limits.now in
    let over : last_test c.args.coding c.args.room limits rest ≡ false = search rules in
    let more : 1 < c.loop-left.left = omega arith in
    let pushed : c.push_part.new.parts.items ≡ c.loop-left.parts.items ++ alone (wrapped limits (take len rest ++ limits.suffix) ∷ []) = search rules in
    let next = cutting_more c.args.coding c.args.room limits c.args.body.now c.loop-left.parts.items c.push_part.new.parts.items rest c.loop-left.left len c.loop-left.invariant more over c.part_len-len.ensures pushed in
    subst (λ (w : List ℕ). Cutting c.args.coding c.args.room limits c.args.body.now c.push_part.new.parts.items w (c.loop-left.left - 1)) (sym (take_rest rest len)) next

pub returns : goal.returns
returns c =
    let rest = c.loop-left.rest.now in
    let len = c.last_len-len.result in
    let limits = c.args.limits.now in
    let pushed : c.push_part-2.new.parts.items ≡ c.loop-left.parts.items ++ alone (wrapped limits (take len rest ++ []) ∷ []) = search rules in
    elim c.loop-left-test.branch [
      | then-loop-left-test+else-not-is_last w ↦
          let fits : last_test c.args.coding c.args.room limits rest ≡ true = search rules in
          cutting_end c.args.coding c.args.room limits c.args.body.now c.loop-left.parts.items c.push_part-2.new.parts.items rest c.loop-left.left len c.loop-left.invariant (inl fits) c.last_len-len.ensures.taken pushed
      | else-loop-left-test w ↦
          cutting_end c.args.coding c.args.room limits c.args.body.now c.loop-left.parts.items c.push_part-2.new.parts.items rest c.loop-left.left len c.loop-left.invariant (inr (omega arith)) c.last_len-len.ensures.taken pushed
    ]
