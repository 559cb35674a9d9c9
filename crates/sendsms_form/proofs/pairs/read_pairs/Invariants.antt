use Rattle.std.proofs.Common.{◌≡◌, ◌++◌, map}
use Rattle.form_urlencoded.specs.Parse.{raw_pairs_left}
use Rattle.sendsms_form.specs.Pairs.{pairs, decoded}
use Rattle.sendsms_form.proofs.pairs.read_pairs.Given as goal

-- the pairs so far, and those that are left, are those of the query
abbrev pub invariant-loop-name : goal.invariant-loop-name
invariant-loop-name l = l.pairs ++ map decoded (raw_pairs_left l.name-iterator) ≡ pairs l.query
