use Rattle.std.proofs.Common.{◌≡◌, ◌<◌, ◌+◌, ℕ, length, set, sym, subst, arith, rules}
use Rattle.concat_split.proofs.Texts.{Numbering, numbering_more}
use Rattle.concat_split.proofs.splitting.number.Goals as goal

pub loop-i-preserved : goal.loop-i-preserved
loop-i-preserved c =
    let before = c.args.parts.now.items in
    let now = c.loop-i.parts.items in
    let old = c.index_mut-part.result.now in
    let i = c.loop-i.i in
    let total : c.len-total.result ≡ length before = search rules in
    let inside : i < length before = omega (arith, total) in
    let next = numbering_more before now i old c.loop-i.invariant inside c.index_mut-part.ensures.value in
    subst (λ (n : ℕ). Numbering before (set now i (record { body = old.body; total = n; part = i + 1 })) (i + 1)) (sym total) next
