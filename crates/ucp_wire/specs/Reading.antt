-- Reading a frame from left to right.
use Rattle.std.specs.Prelude.{ℕ, ◌-◌, Bool, List}
use Rattle.exact_octets.specs.Reading.{Reader, both, made, code_at}
use Rattle.exact_text.specs.declared.characters.Characters.TheVariants.{Text}
use Rattle.exact_text.specs.Text.{mark_at, ended_at, decimal_at, characters_at, hex_octet_at, checksum}
use Rattle.ucp_wire.specs.Grammar.{Command, kind_code, kinds, summed}

-- O or R, and the slash
abbrev pub kind_at : Reader Bool
kind_at = ended_at 47 (code_at kind_code kinds)

-- so many characters, and the slash
abbrev pub fields_at : ℕ → Reader (List ℕ)
fields_at len = ended_at 47 (characters_at Text len)

abbrev pub command_from : ℕ × (ℕ × (ℕ × (Bool × (ℕ × List ℕ)))) → Command
command_from x = record { trn = x.1.0; result = x.1.1.1.0; operation = x.1.1.1.1.0; fields = x.1.1.1.1.1 }

-- what stands before the checksum
unfoldable pub head_at : Reader Command
head_at =
    made command_from
    (both (mark_at 2) (λ stx. both (ended_at 47 (decimal_at 2 0 99)) (λ trn. both (ended_at 47 (decimal_at 5 17 2046)) (λ len.
    both kind_at (λ kind. both (ended_at 47 (decimal_at 2 0 99)) (λ operation. fields_at (len - 17)))))))

-- the checksum and ETX
unfoldable pub closing_at : ℕ → Reader ((ℕ × ℕ) × ℕ)
closing_at sum = both (hex_octet_at sum) (λ digits. mark_at 3)

unfoldable pub frame_at : Reader Command
frame_at = made (λ x. x.0) (both head_at (λ command. closing_at (checksum (summed command))))
