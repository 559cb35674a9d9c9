use Rattle.gate_store.proofs.Counting.{counted_by, fates_by, reports_by}
use Rattle.gate_store.proofs.store.Store.totals.Goals as goal

pub returns-clause-fates : goal.returns-clause-fates
returns-clause-fates g c = λ birth entries is. fates_by g.D.Disk.meaning c.args.self.now birth entries is

pub returns-clause-counted : goal.returns-clause-counted
returns-clause-counted g c = λ birth entries is. counted_by g.D.Disk.meaning c.args.self.now c.totals.result c.totals.ensures birth entries is

pub returns-clause-reports : goal.returns-clause-reports
returns-clause-reports g c = λ birth before later is. reports_by g.D.Disk.meaning c.args.self.now birth before later is
