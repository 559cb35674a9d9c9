-- Octets in hex digits.
use Rattle.std.specs.Prelude.{ℕ, ◌%◌, ◌==◌, not, List, length, position, Option, Some, None, if◌then◌else◌}
use Rattle.std.specs.Char.{is_ascii_hexdigit}
use Rattle.kn_base.specs.declared.hexadecimal.HexFault.{HexFault}
use Rattle.kn_base.specs.declared.hexadecimal.HexFault.TheVariants.{Digit, Odd}

-- the first octet that is no hex digit, or else an odd number of digits
abbrev pub hex_fault : List ℕ → Option HexFault
hex_fault text = fault_by (position (λ c. not (is_ascii_hexdigit c)) text) (length text)
  where
    fault_by : Option ℕ → ℕ → Option HexFault
    fault_by (Some at) len = Some (Digit at)
    fault_by None len = if len % 2 == 1 then Some (Odd len) else None
