-- Why a store can't be opened, where its journal can't.
use Rattle.store_journal.specs.declared.fault.OpenFault.{OpenFault}
use Rattle.store_journal.specs.declared.fault.OpenFault.TheVariants as journal_is
use Rattle.gate_store.specs.declared.store_fault.StoreFault.{StoreFault}
use Rattle.gate_store.specs.declared.store_fault.StoreFault.TheVariants.{Foreign, Disk, Memory}

-- the cause of the journal's fault, as the store's
abbrev pub same_fault : OpenFault → StoreFault
same_fault (journal_is.Foreign area at) = Foreign area at
same_fault journal_is.Disk = Disk
same_fault journal_is.Memory = Memory
