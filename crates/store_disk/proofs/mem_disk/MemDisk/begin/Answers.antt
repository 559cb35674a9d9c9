use Rattle.std.proofs.Common.{false, inl, ap}
use Rattle.kn_base.specs.Calls.{Calls}
use Rattle.store_disk.proofs.Numbers.{numbers}
use Rattle.store_disk.proofs.mem_disk.MemDisk.begin.Goals as goal

pub returns-then-fails-clause-numbered : goal.returns-then-fails-clause-numbered
returns-then-fails-clause-numbered c =
    numbers false c.args.self.now _ c.next_call-call.ensures.within (ap (λ (calls : Calls). calls.made) c.next_call-call.ensures.calls) (inl c.next_call-call.ensures.log)

pub returns-clause-numbered : goal.returns-clause-numbered
returns-clause-numbered c =
    numbers false c.args.self.now c.next_call-call.new.self c.next_call-call.ensures.within (ap (λ (calls : Calls). calls.made) c.next_call-call.ensures.calls) (inl c.next_call-call.ensures.log)
