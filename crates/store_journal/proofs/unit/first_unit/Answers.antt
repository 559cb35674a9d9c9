use Rattle.exact_octets.specs.declared.read_fault.ReadFault.TheVariants as faults
use Rattle.store_journal.proofs.Units.{no_unit, first_unit}
use Rattle.store_journal.proofs.unit.first_unit.Goals as goal

pub returns-in-Ok : goal.returns-in-Ok
returns-in-Ok c = first_unit c.args.octets.now _ _ (λ i. (c.type_inv.octets i).fits) c.in-Ok.ensures

pub returns-in-Err-Short : goal.returns-in-Err-Short
returns-in-Err-Short c = no_unit c.args.octets.now faults.Short (rw c.in-Err-Short.field-0-is at c.in-Err-Short.ensures)

pub returns-in-Err-Malformed : goal.returns-in-Err-Malformed
returns-in-Err-Malformed c = no_unit c.args.octets.now _ (rw c.in-Err-Malformed.field-0-is at c.in-Err-Malformed.ensures)
