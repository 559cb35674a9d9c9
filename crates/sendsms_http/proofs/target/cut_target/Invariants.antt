use Rattle.std.proofs.Common.{◌≡◌, ◌++◌, take, drop}
use Rattle.sendsms_http.specs.Target.{path_of, query_of}
use Rattle.sendsms_http.proofs.target.cut_target.Given as goal

-- the octets so far are of the path
abbrev pub invariant-loop-at : goal.invariant-loop-at
invariant-loop-at l = record {
  path : path_of l.target ≡ take l.at l.target ++ path_of (drop l.at l.target);
  query : query_of l.target ≡ query_of (drop l.at l.target);
}
