-- The default alphabet and its extension (GSM 03.38 6.2.1 and 6.2.1.1), as one table, and both directions from it.
-- A character is its number in Unicode.
use Rattle.std.specs.Prelude.{ℕ, ◌==◌, not, List, [], ◌∷◌, ◌++◌, map, filter, position, slice_index, unwrap_or, if◌then◌else◌, Option, None, Some}
use Rattle.std.specs.List.{find}
use Rattle.std.specs.Option.{option_map}

-- the characters of the septets 00 to 7F, in their order, sixteen a line; at 1B stands the escape (GSM 03.38 6.2.1)
unfoldable pub default_alphabet : List ℕ
default_alphabet =
    0x0040 ∷ 0x00A3 ∷ 0x0024 ∷ 0x00A5 ∷ 0x00E8 ∷ 0x00E9 ∷ 0x00F9 ∷ 0x00EC ∷ 0x00F2 ∷ 0x00C7 ∷ 0x000A ∷ 0x00D8 ∷ 0x00F8 ∷ 0x000D ∷ 0x00C5 ∷ 0x00E5
    ∷ 0x0394 ∷ 0x005F ∷ 0x03A6 ∷ 0x0393 ∷ 0x039B ∷ 0x03A9 ∷ 0x03A0 ∷ 0x03A8 ∷ 0x03A3 ∷ 0x0398 ∷ 0x039E ∷ 0x001B ∷ 0x00C6 ∷ 0x00E6 ∷ 0x00DF ∷ 0x00C9
    ∷ 0x0020 ∷ 0x0021 ∷ 0x0022 ∷ 0x0023 ∷ 0x00A4 ∷ 0x0025 ∷ 0x0026 ∷ 0x0027 ∷ 0x0028 ∷ 0x0029 ∷ 0x002A ∷ 0x002B ∷ 0x002C ∷ 0x002D ∷ 0x002E ∷ 0x002F
    ∷ 0x0030 ∷ 0x0031 ∷ 0x0032 ∷ 0x0033 ∷ 0x0034 ∷ 0x0035 ∷ 0x0036 ∷ 0x0037 ∷ 0x0038 ∷ 0x0039 ∷ 0x003A ∷ 0x003B ∷ 0x003C ∷ 0x003D ∷ 0x003E ∷ 0x003F
    ∷ 0x00A1 ∷ 0x0041 ∷ 0x0042 ∷ 0x0043 ∷ 0x0044 ∷ 0x0045 ∷ 0x0046 ∷ 0x0047 ∷ 0x0048 ∷ 0x0049 ∷ 0x004A ∷ 0x004B ∷ 0x004C ∷ 0x004D ∷ 0x004E ∷ 0x004F
    ∷ 0x0050 ∷ 0x0051 ∷ 0x0052 ∷ 0x0053 ∷ 0x0054 ∷ 0x0055 ∷ 0x0056 ∷ 0x0057 ∷ 0x0058 ∷ 0x0059 ∷ 0x005A ∷ 0x00C4 ∷ 0x00D6 ∷ 0x00D1 ∷ 0x00DC ∷ 0x00A7
    ∷ 0x00BF ∷ 0x0061 ∷ 0x0062 ∷ 0x0063 ∷ 0x0064 ∷ 0x0065 ∷ 0x0066 ∷ 0x0067 ∷ 0x0068 ∷ 0x0069 ∷ 0x006A ∷ 0x006B ∷ 0x006C ∷ 0x006D ∷ 0x006E ∷ 0x006F
    ∷ 0x0070 ∷ 0x0071 ∷ 0x0072 ∷ 0x0073 ∷ 0x0074 ∷ 0x0075 ∷ 0x0076 ∷ 0x0077 ∷ 0x0078 ∷ 0x0079 ∷ 0x007A ∷ 0x00E4 ∷ 0x00F6 ∷ 0x00F1 ∷ 0x00FC ∷ 0x00E0 ∷ []

-- the septets that the extension gives a character behind the escape, each beside it (GSM 03.38 6.2.1.1)
unfoldable pub extension : List (ℕ × ℕ)
extension = (0x0A, 0x000C) ∷ (0x14, 0x005E) ∷ (0x28, 0x007B) ∷ (0x29, 0x007D) ∷ (0x2F, 0x005C)
    ∷ (0x3C, 0x005B) ∷ (0x3D, 0x007E) ∷ (0x3E, 0x005D) ∷ (0x40, 0x007C) ∷ (0x65, 0x20AC) ∷ []

-- the septet that calls the extension, which is also the number of the control character ESC
abbrev pub escape : ℕ
escape = 0x1B

-- what a character outside the alphabet becomes, in the alphabet and in Unicode: `?`
abbrev pub question_mark : ℕ
question_mark = 0x3F

-- what an escape with nothing behind it is shown as (GSM 03.38 6.2.1, note 1)
abbrev pub space : ℕ
space = 0x20

-- the characters that septets can carry: all of the table but the escape
unfoldable pub characters : List ℕ
characters = filter (λ c. not (c == escape)) default_alphabet ++ map (λ entry. entry.1) extension

-- the septets of a character with this place in the default alphabet, and with this one behind the escape
abbrev pub septets_at : Option ℕ → Option ℕ → List ℕ
septets_at (Some septet) behind = septet ∷ []
septets_at None (Some septet) = escape ∷ septet ∷ []
septets_at None None = question_mark ∷ []

-- the septets of a character; ESC itself is none that a text may carry
unfoldable pub septets_of : ℕ → List ℕ
septets_of c = if c == escape then question_mark ∷ [] else
    septets_at (position (λ x. x == c) default_alphabet) (option_map (λ entry. entry.0) (find (λ entry. entry.1 == c) extension))

-- the character of a septet
unfoldable pub plain_character : ℕ → ℕ
plain_character septet = slice_index default_alphabet septet

-- the character of a septet behind the escape: where the extension has none, the septet's own
unfoldable pub extended_character : ℕ → ℕ
extended_character septet = unwrap_or (option_map (λ entry. entry.1) (find (λ entry. entry.0 == septet) extension)) (plain_character septet)

-- the characters that septets spell
unfoldable pub text_of : List ℕ → List ℕ
text_of [] = []
text_of (septet ∷ []) = (if septet == escape then space else plain_character septet) ∷ []
text_of (septet ∷ next ∷ rest) = if septet == escape then extended_character next ∷ text_of rest
    else plain_character septet ∷ text_of (next ∷ rest)
