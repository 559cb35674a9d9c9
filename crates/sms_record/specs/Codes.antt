-- The octets that name a coding, a class and a charset.
use Rattle.std.specs.Prelude.{ℕ, List, [], ◌∷◌, Option, Some, None}
use Rattle.kn_base.specs.declared.charset.Charset.{Charset}
use Rattle.kn_base.specs.declared.charset.Charset.TheVariants.{Utf8, Latin1, Utf16Be}
use Rattle.sms_record.specs.declared.coding.Coding.{Coding}
use Rattle.sms_record.specs.declared.coding.Coding.TheVariants.{Seven, Eight, Ucs2}

abbrev pub codings : List Coding
codings = Seven ∷ Eight ∷ Ucs2 ∷ []

abbrev pub coding_code : Coding → ℕ
coding_code Seven = 0
coding_code Eight = 1
coding_code Ucs2 = 2

-- no class, or one of four (GSM 03.38, section 4)
abbrev pub classes : List (Option ℕ)
classes = None ∷ Some 0 ∷ Some 1 ∷ Some 2 ∷ Some 3 ∷ []

abbrev pub class_code : Option ℕ → ℕ
class_code None = 255
class_code (Some class) = class

abbrev pub charsets : List Charset
charsets = Utf8 ∷ Latin1 ∷ Utf16Be ∷ []

abbrev pub charset_code : Charset → ℕ
charset_code Utf8 = 0
charset_code Latin1 = 1
charset_code Utf16Be = 2
