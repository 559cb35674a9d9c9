use Rattle.std.proofs.Common.{sym, arith, take_all}
use Rattle.std.proofs.lemmas.List.{length-take-le}
use Rattle.http_text.specs.Head.{head_limit}
use Rattle.http_text.proofs.head.read.front.Goals as goal

pub slice_bounds-result-end : goal.slice_bounds-result-end
slice_bounds-result-end c = sym (length-take-le head_limit c.args.octets.now (omega arith))

pub returns-else-octets-gt-HEAD_LIMIT : goal.returns-else-octets-gt-HEAD_LIMIT
returns-else-octets-gt-HEAD_LIMIT c = sym (take_all head_limit c.args.octets.now (omega arith))
