use Rattle.gate_entries.specs.declared.passing.Passing.TheVariants.{Up}
use Rattle.gate_store.proofs.Keeping.{passes_keeps}
use Rattle.model_runs.proofs.stores.come_up.Goals as goal

pub returns-clause-kept : goal.returns-clause-kept
returns-clause-kept g c =
    (passes_keeps g.D.Disk.meaning c.args.store.now c.pass.new.self (Up c.args.link) c.requires.kept c.pass.ensures).opened

pub returns-clause-ruled : goal.returns-clause-ruled
returns-clause-ruled g c = c.pass.ensures.ruled
