use Rattle.std.proofs.Common.{◌≡◌, map, filter}
use Rattle.config_values.specs.Values.{is_filled}
use Rattle.sendsms_form.specs.Variables.{address_of}
use Rattle.sendsms_form.proofs.addresses.numbers_of.Given as goal

-- the numbers so far
abbrev pub invariant-loop-word : goal.invariant-loop-word
invariant-loop-word l = l.numbers ≡ map address_of (filter is_filled (map (λ x. x.now) l.yielded))
