-- What octets say in each charset, and what is no text.
use Rattle.std.specs.Prelude.{◌≡◌, ℕ, ◌%◌, List, length, ⊤, IsUtf8, encode_utf8_all}
use Rattle.std.specs.Str.{IsValidUpTo}
use Rattle.std.specs.Char.Utf16.{utf16_lossy_chars}
use Rattle.kn_base.specs.declared.charset.Charset.{Charset}
use Rattle.kn_base.specs.declared.charset.Charset.TheVariants.{Utf8, Latin1, Utf16Be}
use Rattle.gsm_alphabet.specs.declared.charset_text.CharsetFault.{CharsetFault}
use Rattle.gsm_alphabet.specs.declared.charset_text.CharsetFault.TheVariants.{BadUtf8, Odd, Memory}
use Rattle.gsm_alphabet.specs.Ucs2.{units_of}

-- the text of octets, in UTF-8 (RFC 3629; ISO 8859-1, where an octet is its character's number; RFC 2781)
abbrev pub text_in : Charset → List ℕ → List ℕ
text_in Utf8 octets = octets
text_in Latin1 octets = encode_utf8_all octets
text_in Utf16Be octets = encode_utf8_all (utf16_lossy_chars (units_of octets))

-- the octets are a text: each list of octets is one in ISO-8859-1, and each of whole units in UTF-16
abbrev pub IsTextIn : Charset → List ℕ → Type 0
IsTextIn Utf8 octets = IsUtf8 octets
IsTextIn Latin1 octets = ⊤
IsTextIn Utf16Be octets = length octets % 2 ≡ 0

-- the fault says why the octets are no text, and where; want of memory says nothing of them
abbrev pub IsFaultIn : Charset → List ℕ → CharsetFault → Type 0
IsFaultIn charset octets (BadUtf8 at) = (charset ≡ Utf8) × ¬ (IsUtf8 octets) × IsValidUpTo octets at
IsFaultIn charset octets (Odd len) = (charset ≡ Utf16Be) × (len ≡ length octets) × (length octets % 2 ≡ 1)
IsFaultIn charset octets Memory = ⊤
