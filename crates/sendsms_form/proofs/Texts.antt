-- Whether octets are a text, as a test and as a fact; and the body of a text.
use Rattle.std.proofs.Common.{◌≡◌, ◌≢◌, inl, inr, ℕ, true, false, ◌==◌, List, chars, Some, None, refl, ap, sym, ◌∙◌, if◌then◌else◌}
use Rattle.std.specs.List.{flat_map}
use Rattle.std.proofs.lemmas.Bool.{cases_Bool}
use Rattle.std.proofs.lemmas.Str.{IsUtf8-from_is_utf8, is_utf8-from_IsUtf8}
use Rattle.std.specs.Str.{is_utf8}
use Rattle.kn_base.specs.declared.charset.Charset.{Charset}
use Rattle.kn_base.specs.declared.charset.Charset.TheVariants.{Utf8, Latin1, Utf16Be}
use Rattle.gsm_alphabet.specs.Alphabet.{septets_of}
use Rattle.gsm_alphabet.specs.Charsets.{text_in, IsTextIn, IsFaultIn}
use Rattle.gsm_alphabet.specs.Ucs2.{ucs2_of}
use Rattle.gsm_alphabet.specs.declared.charset_text.CharsetFault.TheVariants.{BadUtf8, Odd}
use Rattle.sms_record.specs.declared.coding.Coding.TheVariants.{Seven, Ucs2}
use Rattle.sendsms_form.specs.Variables.{is_text_in, septets, ucs2, body_in, body_of}

is_text : (charset : Charset) (octets : List ℕ) → IsTextIn charset octets → is_text_in charset octets ≡ true
is_text Utf8 octets h = is_utf8-from_IsUtf8 octets h
is_text Latin1 octets h = refl
is_text Utf16Be octets h = ap (λ n. n == 0) h

not_utf8 : (octets : List ℕ) → ¬ (IsTextIn Utf8 octets) → is_utf8 octets ≡ false
not_utf8 octets no_text = elim (cases_Bool (is_utf8 octets)) [
  | inl is ↦ absurd (no_text (IsUtf8-from_is_utf8 octets is))
  | inr is ↦ is
]

bad_utf8 : (charset : Charset) (octets : List ℕ) (at : ℕ) → IsFaultIn charset octets (BadUtf8 at) → is_text_in charset octets ≡ false
bad_utf8 charset octets at fault = ap (λ c. is_text_in c octets) fault.0 ∙ not_utf8 octets fault.1

odd : (charset : Charset) (octets : List ℕ) (len : ℕ) → IsFaultIn charset octets (Odd len) → is_text_in charset octets ≡ false
odd charset octets len fault = ap (λ c. is_text_in c octets) fault.0 ∙ ap (λ n. n == 0) fault.2

-- ---- septets

pub septets_are : (charset : Charset) (octets text body : List ℕ) → IsTextIn charset octets → text ≡ text_in charset octets
    → body ≡ flat_map septets_of (chars text) → Some body ≡ body_of Seven charset octets
septets_are charset octets text body is same made =
    ap (λ xs. Some xs) (made ∙ ap septets same) ∙ ap (λ b. if b then Some (septets (text_in charset octets)) else None) (sym (is_text charset octets is))

pub no_septets_utf8 : (charset : Charset) (octets : List ℕ) (at : ℕ) → IsFaultIn charset octets (BadUtf8 at) → None ≡ body_of Seven charset octets
no_septets_utf8 charset octets at fault = ap (λ b. if b then Some (septets (text_in charset octets)) else None) (sym (bad_utf8 charset octets at fault))

pub no_septets_odd : (charset : Charset) (octets : List ℕ) (len : ℕ) → IsFaultIn charset octets (Odd len) → None ≡ body_of Seven charset octets
no_septets_odd charset octets len fault = ap (λ b. if b then Some (septets (text_in charset octets)) else None) (sym (odd charset octets len fault))

-- ---- UCS-2

converted : (charset : Charset) (octets : List ℕ) → charset ≢ Utf16Be → body_in Ucs2 charset octets ≡ ucs2 (text_in charset octets)
converted Utf8 octets other = refl
converted Latin1 octets other = refl
converted Utf16Be octets other = absurd (other refl)

pub ucs2_is : (charset : Charset) (octets text body : List ℕ) → charset ≢ Utf16Be → IsTextIn charset octets → text ≡ text_in charset octets
    → body ≡ flat_map ucs2_of (chars text) → Some body ≡ body_of Ucs2 charset octets
ucs2_is charset octets text body other is same made =
    ap (λ xs. Some xs) (made ∙ ap ucs2 same ∙ sym (converted charset octets other))
    ∙ ap (λ b. if b then Some (body_in Ucs2 charset octets) else None) (sym (is_text charset octets is))

pub no_ucs2_utf8 : (charset : Charset) (octets : List ℕ) (at : ℕ) → IsFaultIn charset octets (BadUtf8 at) → None ≡ body_of Ucs2 charset octets
no_ucs2_utf8 charset octets at fault = ap (λ b. if b then Some (body_in Ucs2 charset octets) else None) (sym (bad_utf8 charset octets at fault))

pub no_ucs2_odd : (charset : Charset) (octets : List ℕ) (len : ℕ) → IsFaultIn charset octets (Odd len) → None ≡ body_of Ucs2 charset octets
no_ucs2_odd charset octets len fault = ap (λ b. if b then Some (body_in Ucs2 charset octets) else None) (sym (odd charset octets len fault))
