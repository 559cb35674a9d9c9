use Rattle.std.proofs.Common.{ap}
use Rattle.sendsms_http.specs.declared.visit.Visit.{Visit}
use Rattle.sendsms_http.proofs.Heads.{refused_at_end, not_empty}
use Rattle.sendsms_http.proofs.visit.Visit.at_end.Goals as goal

pub returns-else-is_empty-clause-ends : goal.returns-else-is_empty-clause-ends
returns-else-is_empty-clause-ends c = λ settings now.
    refused_at_end settings now c.args.self.now.kept c.refuse.new.self c.refuse.result (ap (λ (v : Visit). v.kept) c.refuse.ensures.same)
    (not_empty c.is_empty.result c.args.self.now.kept c.is_empty.ensures c.if-is_empty.false) c.requires c.refuse.ensures.said
