-- Which numbers stand in a field, and how a number is spelled.
use Rattle.std.specs.Prelude.{◌≡◌, ℕ, ◌≤◌, ◌/◌, ◌%◌, Bool, true, false, ◌&&◌, ◌||◌, not, ◌==◌, List}
use Rattle.std.specs.Int.{bytes_high_first}
use Rattle.exact_octets.specs.declared.number.Numbers.{Numbers}
use Rattle.exact_octets.specs.Alphabet.{within}

-- the numbers from one to another
abbrev pub from_to : ℕ → ℕ → Numbers
from_to least most = record { least = least; most = most; even = false }

-- the even numbers up to another
abbrev pub even_up_to : ℕ → Numbers
even_up_to most = record { least = 0; most = most; even = true }

-- between two bounds, and even where that is asked for
abbrev pub is_among : Numbers → ℕ → Bool
is_among numbers n = within numbers.least numbers.most n && (not numbers.even || n % 2 == 0)

abbrev pub IsAmong : Numbers → ℕ → Type 0
IsAmong numbers n = (numbers.least ≤ n) × (n ≤ numbers.most) × (numbers.even ≡ true → n % 2 ≡ 0)

-- what such numbers leave without their last octet
abbrev pub high_of : Numbers → Numbers
high_of numbers = from_to (numbers.least / 256) (numbers.most / 256)

-- a number in so many octets, the high one first: in 2, 4 or 8 it is to_be_bytes of std
abbrev pub number : ℕ → ℕ → List ℕ
number width n = bytes_high_first width n
