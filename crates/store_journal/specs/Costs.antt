-- What several disk calls cost, and how their faults are counted.
use Rattle.std.specs.Prelude.{◌≡◌, ◌≤◌, ◌+◌, ℕ, Result, OnOk, OnErr, IfErr, IsErrOf}
use Rattle.kn_base.specs.Count.{Rose}
use Rattle.store_disk.specs.Meaning.{Meaning}
use Rattle.store_disk.specs.declared.disk.DiskFailed.{DiskFailed}
use Rattle.store_journal.specs.Journal.{IsUnlessDisk}
use Rattle.store_journal.specs.declared.fault.OpenFault.{OpenFault}
use Rattle.store_journal.specs.declared.fault.OpenFault.TheVariants.{Disk}

-- At most so many calls were made. The count of faults stays at Ok and rises at a fault, and never falls.
pub record Spends {D T : Type 0} (meaning : Meaning D) (most : ℕ) (old new : D) (result : Result T DiskFailed) : Type 0 where
  pub bounded : meaning.calls new ≤ meaning.calls old + most
  pub kept : meaning.faults old ≤ meaning.faults new
  pub ok : OnOk result (meaning.faults new ≡ meaning.faults old)
  pub failed : OnErr result (Rose (meaning.faults old) (meaning.faults new))

-- At most so many calls were made. The count of faults rises where Disk is answered, and else stays; it never falls.
pub record Spares {D T : Type 0} (meaning : Meaning D) (most : ℕ) (old new : D) (result : Result T OpenFault) : Type 0 where
  pub bounded : meaning.calls new ≤ meaning.calls old + most
  pub kept : meaning.faults old ≤ meaning.faults new
  pub ok : OnOk result (meaning.faults new ≡ meaning.faults old)
  pub spared : IfErr result (λ fault. IsUnlessDisk fault (meaning.faults new ≡ meaning.faults old))
  pub failed : IsErrOf result Disk → Rose (meaning.faults old) (meaning.faults new)
