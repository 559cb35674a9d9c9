use Rattle.std.proofs.Common.{rules}
use Rattle.std.specs.Int.{w32, w64, to_be_bytes}
use Rattle.std.proofs.lemmas.Result.{on_ok_weaker}
use Rattle.exact_octets.proofs.Growing.{grown3}
use Rattle.sms_record.proofs.record.times.put_times.Goals as goal

pub returns-clause-ok : goal.returns-clause-ok
returns-clause-ok c = on_ok_weaker c.extend_from_slice-3.result (grown3 c.args.into.now c.extend_from_slice.new.self c.extend_from_slice-2.new.self c.extend_from_slice-3.new.self (to_be_bytes w32 c.args.sms.now.validity) (to_be_bytes w32 c.args.sms.now.deferred) (to_be_bytes w64 c.args.sms.now.time) (search rules) (search rules)) (search rules)
