use Rattle.std.proofs.Common.{ap, sym, subst}
use Rattle.http_text.specs.Head.{NeedsMore}
use Rattle.http_text.proofs.FirstHead.{more_at_first}
use Rattle.sendsms_http.specs.declared.visit.Visit.{Visit}
use Rattle.sendsms_http.proofs.Heads.{whole_of, bad_of, long_of, owes_refusal, owes_memory, says_owed, not_empty}
use Rattle.sendsms_http.proofs.visit.Visit.look.Goals as goal

pub returns-then-is_empty-clause-looks : goal.returns-then-is_empty-clause-looks
returns-then-is_empty-clause-looks c = c.listen.ensures.looks c.args.settings.now c.args.now

pub ask-requires-clause-whole : goal.ask-requires-clause-whole
ask-requires-clause-whole c =
    whole_of c.as_slice.result.now c.args.self.now.kept c.in-Ok-Whole-default.field-0-0 c.in-Ok-Whole-default.head c.in-Ok-Whole-default.len
    c.as_slice.ensures c.in-Ok-Whole-default.field-0-0-is c.in-Ok-Whole-default.ensures.read

pub returns-in-Ok-NeedMore-default-clause-looks : goal.returns-in-Ok-NeedMore-default-clause-looks
returns-in-Ok-NeedMore-default-clause-looks c = c.listen-in-Ok-NeedMore-default.ensures.looks c.args.settings.now c.args.now

pub returns-in-Ok-Bad-default-clause-looks : goal.returns-in-Ok-Bad-default-clause-looks
returns-in-Ok-Bad-default-clause-looks c =
    says_owed c.args.settings.now c.args.now c.args.self.now.kept c.refuse.new.self c.refuse.result _ _ c.refuse.ensures.said
    (owes_refusal c.args.settings.now _ c.args.now c.args.self.now.kept c.refuse.new.self (ap (λ (v : Visit). v.kept) c.refuse.ensures.same)
    (not_empty c.is_empty.result c.args.self.now.kept c.is_empty.ensures c.if-is_empty.false)
    (bad_of c.as_slice.result.now c.args.self.now.kept c.in-Ok-Bad-default.field-0-0 c.as_slice.ensures c.in-Ok-Bad-default.field-0-0-is c.in-Ok-Bad-default.ensures.read))

pub returns-in-Ok-TooLong-default-clause-looks : goal.returns-in-Ok-TooLong-default-clause-looks
returns-in-Ok-TooLong-default-clause-looks c =
    says_owed c.args.settings.now c.args.now c.args.self.now.kept c.refuse-in-Ok-TooLong-default.new.self c.refuse-in-Ok-TooLong-default.result _ _ c.refuse-in-Ok-TooLong-default.ensures.said
    (owes_refusal c.args.settings.now _ c.args.now c.args.self.now.kept c.refuse-in-Ok-TooLong-default.new.self (ap (λ (v : Visit). v.kept) c.refuse-in-Ok-TooLong-default.ensures.same)
    (not_empty c.is_empty.result c.args.self.now.kept c.is_empty.ensures c.if-is_empty.false)
    (long_of c.as_slice.result.now c.args.self.now.kept c.in-Ok-TooLong-default.field-0-0 _ c.as_slice.ensures c.in-Ok-TooLong-default.field-0-0-is c.in-Ok-TooLong-default.ensures.read))

pub returns-in-Err-clause-looks : goal.returns-in-Err-clause-looks
returns-in-Err-clause-looks c =
    says_owed c.args.settings.now c.args.now c.args.self.now.kept c.refuse-in-Err.new.self c.refuse-in-Err.result _ _ c.refuse-in-Err.ensures.said
    (owes_memory c.args.settings.now _ c.args.now c.args.self.now.kept c.refuse-in-Err.new.self (ap (λ (v : Visit). v.kept) c.refuse-in-Err.ensures.same)
    (not_empty c.is_empty.result c.args.self.now.kept c.is_empty.ensures c.if-is_empty.false))

pub listen-requires-clause-more : goal.listen-requires-clause-more
listen-requires-clause-more c = subst NeedsMore (sym (c.is_empty.ensures.0 c.if-is_empty.true)) more_at_first
