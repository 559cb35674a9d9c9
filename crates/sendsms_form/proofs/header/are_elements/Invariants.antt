use Rattle.std.proofs.Common.{◌≡◌, ◌≤◌, ◌+◌, ◌-◌, length}
use Rattle.sendsms_form.specs.Variables.{fill}
use Rattle.sendsms_form.proofs.header.are_elements.Given as goal

-- the rest are elements exactly where all of the octets are
abbrev pub invariant-loop : goal.invariant-loop
invariant-loop l = record {
  same : fill (length l.octets) l.octets ≡ fill (l.end - l.counter) l.rest;
  left : length l.rest + l.counter ≤ l.end;
}
