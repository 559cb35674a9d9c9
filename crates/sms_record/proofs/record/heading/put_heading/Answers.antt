use Rattle.std.proofs.Common.{rules}
use Rattle.std.proofs.lemmas.Result.{on_ok_weaker}
use Rattle.exact_octets.proofs.Growing.{grown4}
use Rattle.sms_record.specs.Record.{address, marks, times}
use Rattle.sms_record.proofs.record.heading.put_heading.Goals as goal

pub returns-clause-ok : goal.returns-clause-ok
returns-clause-ok c = on_ok_weaker c.put_times.result (grown4 c.args.into.now c.put_address.new.into c.put_address-2.new.into c.put_marks.new.into c.put_times.new.into (address c.args.sms.now.sender) (address c.args.sms.now.receiver) (marks c.args.sms.now) (times c.args.sms.now) (search rules) (search rules) (search rules)) (search rules)
