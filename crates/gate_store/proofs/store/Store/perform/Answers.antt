use Rattle.std.proofs.Common.{sym, ap, ◌∙◌}
use Rattle.std.specs.Result.{result_err}
use Rattle.gate_store.proofs.Recording.{refused}
use Rattle.gate_store.proofs.store.Store.perform.Goals as goal

pub returns-in-Err : goal.returns-in-Err
returns-in-Err g c =
    refused g.D.Disk.meaning c.args.self.now c.args.entry c.in-Err.refusal c.requires.kept
    (sym c.check.ensures ∙ ap result_err c.in-Err.is)
