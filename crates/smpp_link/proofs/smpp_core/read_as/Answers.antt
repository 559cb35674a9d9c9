use Rattle.smpp_link.proofs.Reading.{whole_answered, more_read, bad_read}
use Rattle.smpp_link.proofs.smpp_core.read_as.Goals as goal

pub heard_whole-requires : goal.heard_whole-requires
heard_whole-requires c = c.in-Whole.ensures.told.0.fields

pub returns-in-Whole : goal.returns-in-Whole
returns-in-Whole c = whole_answered c.args.octets.now c.in-Whole.pdu c.in-Whole.len c.heard_whole.result c.in-Whole.ensures c.heard_whole.ensures

pub returns-in-NeedMore : goal.returns-in-NeedMore
returns-in-NeedMore c = more_read c.args.octets.now c.in-NeedMore.ensures

pub returns-in-Bad : goal.returns-in-Bad
returns-in-Bad c = bad_read c.args.octets.now c.in-Bad.at c.in-Bad.code c.in-Bad.ensures
