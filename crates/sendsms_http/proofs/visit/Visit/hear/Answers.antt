use Rattle.std.proofs.Common.{ap, ◌++◌}
use Rattle.sendsms_http.specs.declared.visit.Visit.{Visit}
use Rattle.sendsms_http.proofs.Heads.{owes_memory, says_owed, some_more}
use Rattle.sendsms_http.proofs.visit.Visit.hear.Goals as goal

pub returns-in-Err-clause-looks : goal.returns-in-Err-clause-looks
returns-in-Err-clause-looks c =
    let heard = c.args.self.now.kept ++ c.args.octets.now in
    says_owed c.args.settings.now c.args.now heard c.refuse.new.self c.refuse.result _ _ c.refuse.ensures.said
    (owes_memory c.args.settings.now _ c.args.now heard c.refuse.new.self (ap (λ (v : Visit). v.kept) c.refuse.ensures.same)
    (some_more c.args.self.now.kept c.args.octets.now c.requires.some))
