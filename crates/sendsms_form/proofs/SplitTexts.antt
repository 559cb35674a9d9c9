-- The texts of a user's settings, brought into a coding.
use Rattle.std.proofs.Common.{◌≡◌, ℕ, ◌+◌, ◌*◌, ◌≤◌, true, List, [], ◌∷◌, length, chars, Option, Some, None, IsUtf8, refl, sym, ◌∙◌, arith, length-append}
use Rattle.std.proofs.lemmas.Bool.{cond_both}
use Rattle.std.proofs.lemmas.Str.{is_utf8-from_IsUtf8}
use Rattle.std.specs.Prelude.{position, ◌==◌, ◌-◌, ◌/◌, ◌%◌, nat_lt}
use Rattle.std.specs.List.{flat_map, find}
use Rattle.std.specs.Option.{option_map}
use Rattle.std.specs.Int.{w16, to_be_bytes}
use Rattle.std.specs.Char.Escape.{encode_utf16}
use Rattle.concat_split.specs.Parts.{AreLimits}
use Rattle.config_groups.specs.Ranges.{IsUser}
use Rattle.config_groups.specs.declared.settings.user.User.{User}
use Rattle.config_values.proofs.Texts.{few_octets, some_characters}
use Rattle.config_values.specs.Values.{characters}
use Rattle.gsm_alphabet.specs.Alphabet.{septets_of, septets_at, question_mark, escape, default_alphabet, extension}
use Rattle.gsm_alphabet.specs.Ucs2.{ucs2_of}
use Rattle.kn_base.specs.declared.charset.Charset.TheVariants.{Utf8}
use Rattle.sendsms_form.proofs.Ranges.{coded}
use Rattle.sendsms_form.specs.Variables.{is_body_in, body_in, body_of}
use Rattle.sendsms_form.specs.Messages.{limits_of}
use Rattle.sms_record.specs.Record.{IsOfCoding}
use Rattle.sms_record.specs.declared.coding.Coding.{Coding}
use Rattle.sms_record.specs.declared.coding.Coding.TheVariants.{Seven, Eight, Ucs2}

-- UTF-8 is a text in each coding
pub is_text : (coding : Coding) (text : List ℕ) → IsUtf8 text → is_body_in coding Utf8 text ≡ true
is_text Seven text utf8 = is_utf8-from_IsUtf8 text utf8
is_text Eight text utf8 = refl
is_text Ucs2 text utf8 = is_utf8-from_IsUtf8 text utf8

pub some_text : (coding : Coding) (text : List ℕ) → IsUtf8 text → body_of coding Utf8 text ≡ Some (body_in coding Utf8 text)
some_text coding text utf8 = rw (is_text coding text utf8) refl

pub no_none : (coding : Coding) (text : List ℕ) (body : Option (List ℕ)) → IsUtf8 text → body ≡ body_of coding Utf8 text → body ≡ None → ⊥
no_none coding text body utf8 is none = let e : Some (body_in coding Utf8 text) ≡ None = sym (is ∙ some_text coding text utf8) ∙ none in cc

-- ---- few characters are few octets

septets_at_most : (plain behind : Option ℕ) → length (septets_at plain behind) ≤ 4
septets_at_most (Some septet) behind = omega arith
septets_at_most None (Some septet) = omega arith
septets_at_most None None = omega arith

few_septets : (c : ℕ) → length (septets_of c) ≤ 4
unfolding septets_of
few_septets c =
    let plain = position (λ x. x == c) default_alphabet in
    let behind = option_map (λ entry. entry.0) (find (λ entry. entry.1 == c) extension) in
    cond_both (c == escape) (question_mark ∷ []) (septets_at plain behind) (λ xs. length xs ≤ 4) (λ _. omega arith) (λ _. septets_at_most plain behind)

length-units : (units : List ℕ) → length (flat_map (to_be_bytes w16) units) ≡ 2 * length units
length-units [] = refl
length-units (unit ∷ units) = omega (arith, length-append (to_be_bytes w16 unit) (flat_map (to_be_bytes w16) units), length-units units)

two_units : (c : ℕ) → length (encode_utf16 c) ≤ 2
two_units c =
    cond_both (nat_lt c 0x1_0000) (c ∷ []) ((0xD800 + (c - 0x1_0000) / 0x400) ∷ (0xDC00 + (c - 0x1_0000) % 0x400) ∷ []) (λ xs. length xs ≤ 2)
    (λ _. omega arith) (λ _. omega arith)

few_ucs2 : (c : ℕ) → length (ucs2_of c) ≤ 4
unfolding ucs2_of
few_ucs2 c = omega (arith, length-units (encode_utf16 c), two_units c)

few_each : (f : ℕ → List ℕ) → ((c : ℕ) → length (f c) ≤ 4) → (cs : List ℕ) → length (flat_map f cs) ≤ 4 * length cs
few_each f few [] = omega arith
few_each f few (c ∷ cs) = omega (arith, length-append (f c) (flat_map f cs), few c, few_each f few cs)

-- a text of so many characters has at most four times as many octets in each coding
few_in : (coding : Coding) (text : List ℕ) → IsUtf8 text → length (body_in coding Utf8 text) ≤ 4 * characters text
few_in Seven text utf8 = omega (arith, few_each septets_of few_septets (chars text), some_characters text utf8)
few_in Eight text utf8 = few_octets text utf8
few_in Ucs2 text utf8 = omega (arith, few_each ucs2_of few_ucs2 (chars text), some_characters text utf8)

-- ---- limits

of_coding : (coding : Coding) (text : List ℕ) → IsUtf8 text → IsOfCoding coding (body_in coding Utf8 text)
of_coding coding text utf8 = coded coding Utf8 text (is_text coding text utf8)

-- a user's limits are limits
pub are_limits : (user : User) (coding : Coding) → IsUser user → AreLimits coding (limits_of user coding)
are_limits user coding u =
    let t = u.texts in
    let sum : characters user.split_suffix + characters user.header + characters user.footer ≤ 30 = t.together in
    let front = few_in coding user.header t.header in
    let between = few_in coding user.split_suffix t.split_suffix in
    let behind = few_in coding user.footer t.footer in
    record {
      some = u.max_messages.0;
      few = u.max_messages.1;
      header = of_coding coding user.header t.header;
      suffix = of_coding coding user.split_suffix t.split_suffix;
      footer = of_coding coding user.footer t.footer;
      short = omega (arith, front, between, behind, sum);
    }
