use Rattle.std.proofs.Common.{◌≡◌, ◌++◌, take, drop}
use Rattle.config_lines.specs.Line.{name_of, behind_name}
use Rattle.config_lines.proofs.line.cut_name.Given as goal

-- the octets so far are of the name
abbrev pub invariant-loop-at : goal.invariant-loop-at
invariant-loop-at l = record {
  name : name_of l.octets ≡ take l.at l.octets ++ name_of (drop l.at l.octets);
  rest : behind_name l.octets ≡ behind_name (drop l.at l.octets);
}
