use Rattle.store_journal.proofs.Texts.{header_read, fault_placed, misfit_is}
use Rattle.store_journal.proofs.area_text.read_header.Goals as goal

pub returns-in-Ok-clause-read : goal.returns-in-Ok-clause-read
returns-in-Ok-clause-read c = header_read c.args.octets.now _ _ (λ i. (c.type_inv.octets i).fits) c.in-Ok.ensures

pub misfit-requires : goal.misfit-requires
misfit-requires c = fault_placed c.args.octets.now c.in-Err.fault (λ i. (c.type_inv.octets i).fits) c.in-Err.ensures

pub returns-in-Err-clause-misfit : goal.returns-in-Err-clause-misfit
returns-in-Err-clause-misfit c = misfit_is c.args.area c.args.octets.now c.in-Err.fault c.misfit.result c.in-Err.ensures c.misfit.ensures
