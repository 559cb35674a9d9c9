use Rattle.std.proofs.Common.{Ok, ◌≡◌, ◌<◌, List, length, ap, inr, arith, rules}
use Rattle.sms_record.specs.Header.{Element, header, IsHeader}
use Rattle.concat_split.specs.Joint.{first_joint, IsMalformedAt}
use Rattle.concat_split.proofs.Joints.{Ceases, header_says, header_passed, header_wrong, header_short}
use Rattle.concat_split.proofs.joint.read_udh.Goals as goal

says : (c : goal.In-Ok-default-empty) → IsHeader c.args.udh.now × ((es : List Element) → c.args.udh.now ≡ header es → c.in-Ok-default-empty.joint ≡ first_joint es)
says c =
    let some : 0 < length c.args.udh.now = search rules in
    header_says c.args.udh.now (λ i. omega (arith, c.type_inv.udh i)) some _ _ c.in-Ok-default-empty.len_below c.in-Ok-default-empty.ensures.gives

passed : (c : goal.In-Ok) → Ceases c.args.udh.now (length c.in-Ok.rest.now)
passed c =
    let some : 0 < length c.args.udh.now = search rules in
    header_passed c.args.udh.now (λ i. omega (arith, c.type_inv.udh i)) some _ _ c.in-Ok.len_at_least c.in-Ok.ensures.gives

wrong : (c : goal.In-Err-Malformed) → Ceases c.args.udh.now c.in-Err-Malformed.left
wrong c =
    let some : 0 < length c.args.udh.now = search rules in
    header_wrong c.args.udh.now (λ i. omega (arith, c.type_inv.udh i)) some _ _ c.in-Err-Malformed.field-0-is c.in-Err-Malformed.ensures.gives

short : (c : goal.In-Err-Short) → IsMalformedAt c.args.udh.now (length c.args.udh.now)
short c =
    let some : 0 < length c.args.udh.now = search rules in
    header_short c.args.udh.now (λ i. omega (arith, c.type_inv.udh i)) some _ c.in-Err-Short.field-0-is c.in-Err-Short.ensures.gives

pub returns-in-Ok-default-empty-clause-read : goal.returns-in-Ok-default-empty-clause-read
returns-in-Ok-default-empty-clause-read c = λ es e. ap (λ j. Ok j) ((says c).1 es e)

pub returns-in-Ok-default-empty-clause-ok : goal.returns-in-Ok-default-empty-clause-ok
returns-in-Ok-default-empty-clause-ok c = inr (says c).0

pub overflow_sub-at : goal.overflow_sub-at
overflow_sub-at c = (passed c).0

pub overflow_sub-at-in-Err-Malformed : goal.overflow_sub-at-in-Err-Malformed
overflow_sub-at-in-Err-Malformed c = (wrong c).0

pub returns-in-Ok-clause-read : goal.returns-in-Ok-clause-read
returns-in-Ok-clause-read c = λ es e. absurd ((passed c).1.no_header (es, e))

pub returns-in-Ok-clause-malformed : goal.returns-in-Ok-clause-malformed
returns-in-Ok-clause-malformed c = (passed c).1

pub returns-in-Err-Malformed-clause-read : goal.returns-in-Err-Malformed-clause-read
returns-in-Err-Malformed-clause-read c = λ es e. absurd ((wrong c).1.no_header (es, e))

pub returns-in-Err-Malformed-clause-malformed : goal.returns-in-Err-Malformed-clause-malformed
returns-in-Err-Malformed-clause-malformed c = (wrong c).1

pub returns-in-Err-Short-clause-read : goal.returns-in-Err-Short-clause-read
returns-in-Err-Short-clause-read c = λ es e. absurd ((short c).no_header (es, e))

pub returns-in-Err-Short-clause-malformed : goal.returns-in-Err-Short-clause-malformed
returns-in-Err-Short-clause-malformed c = short c
