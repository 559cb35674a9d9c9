-- Messages that may be handed in may be recorded.
use Rattle.std.proofs.Common.{ℕ, ◌≤◌, ◌^◌, List, arith}
use Rattle.std.proofs.lemmas.Bool.{lt-ltb}
use Rattle.gate_entries.specs.declared.accept.Accept.{Accept}
use Rattle.gate_entries.specs.declared.recorded.Recorded.TheVariants as entry
use Rattle.gate_entries.specs.Entry.{accept_size}
use Rattle.gate_entries.proofs.Accepts.{length-accept_octets}
use Rattle.gate_model.specs.Acceptor.{MayBeHanded}
use Rattle.sms_record.specs.declared.sms.Sms.{Sms}
use Rattle.gate_store.specs.StoreSteps.{MayRecord}
use Rattle.gate_store.specs.declared.store.Store.{Store}

pub handed_in : {D : Type 0} (store : Store D) (parts : List Sms) (time : ℕ) → MayBeHanded parts time
    → MayRecord store (entry.Accept (record { time = time; parts = parts }))
handed_in store parts time may =
    let accept : Accept = record { time = time; parts = parts } in
    let small : accept_size accept ≤ 16777212 = may.small in
    record {
      sound = (may.accept, lt-ltb time (2 ^ 37) may.time_below);
      small = omega (arith, small, length-accept_octets accept);
    }
