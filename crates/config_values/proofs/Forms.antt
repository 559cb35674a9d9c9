-- A value that a variable may hold has the form that its grammar names.
use Rattle.std.proofs.Common.{◌≡◌, refl, subst, ℕ, Bool, true, cond, List, [], ◌∷◌, length, inl, inr, arith, leb-true, All, IfSome, filter}
use Rattle.std.specs.Prelude.{◌≤◌, ◌&&◌, nat_le, IsUtf8}
use Rattle.std.specs.Char.{is_ascii_digit}
use Rattle.std.specs.List.{list_all, slice_split}
use Rattle.std.specs.Str.{is_utf8}
use Rattle.std.proofs.lemmas.Bool.{and_parts, cases_Bool, eqb-true, eqb-false, not-true, false≢true}
use Rattle.std.proofs.lemmas.Bool.Decides.{nat_tests}
use Rattle.std.proofs.lemmas.List.Elements.{All-nil, All-cons}
use Rattle.std.proofs.lemmas.Str.{IsUtf8-from_is_utf8}
use Rattle.sms_record.specs.Limits.{most_digits}
use Rattle.sms_record.specs.Record.{IsDigit}
use Rattle.config_values.specs.Values.{is_within, is_digits, is_printable, is_printable_octet, is_word, is_no_blank, is_path, is_list, is_entry, is_filled, is_separator, is_text, is_number_within, number_of, entries, behind_plus, is_sendable_text, sender_of, characters}
use Rattle.config_values.specs.Forms.{IsWithin, IsPrintable, IsDigits, IsWord, IsNoBlank, IsPath, IsEntry, AreEntries, IsSender, IsText}

pub within : (least most number : ℕ) → is_within least most number ≡ true → IsWithin least most number
within least most number is =
    let parts = and_parts _ _ is in
    (leb-true least number parts.0, leb-true number most parts.1)

-- each element that passes a test is what the test tells
all_from : {X : Type 0} (test : X → Bool) (P : X → Type 0) → ((x : X) → test x ≡ true → P x) → (xs : List X) → list_all test xs ≡ true → All P xs
all_from test P tells [] all = All-nil P
all_from test P tells (x ∷ xs) all =
    let parts = and_parts (test x) (list_all test xs) all in
    All-cons P x xs (tells x parts.0) (all_from test P tells xs parts.1)

digit : (octet : ℕ) → is_ascii_digit octet ≡ true → IsDigit octet
digit octet is = grind (arith, nat_tests)

pub digits : (most : ℕ) (value : List ℕ) → is_digits most value ≡ true → IsDigits most value
digits most value is =
    let parts = and_parts _ _ is in
    (within 1 most (length value) parts.0, all_from is_ascii_digit IsDigit digit value parts.1)

pub printable : (most : ℕ) (value : List ℕ) → is_printable most value ≡ true → IsPrintable most value
printable most value is =
    let parts = and_parts _ _ is in
    (within 1 most (length value) parts.0, all_from is_printable_octet (IsWithin 32 126) (within 32 126) value parts.1)

no_blank : (octet : ℕ) → is_no_blank octet ≡ true → IsNoBlank octet
no_blank octet is =
    let parts = and_parts _ _ is in
    (eqb-false octet 32 (not-true _ parts.0), eqb-false octet 9 (not-true _ parts.1))

pub word : (most : ℕ) (value : List ℕ) → is_word most value ≡ true → IsWord most value
word most value is =
    let parts = and_parts _ _ is in
    (within 1 most (length value) parts.0, all_from is_no_blank IsNoBlank no_blank value parts.1)

pub path : (value : List ℕ) → is_path value ≡ true → IsPath value
path [] is = absurd (false≢true is)
path (first ∷ rest) is = eqb-true first 47 is

pub number : (least most : ℕ) (value : List ℕ) → is_number_within least most value ≡ true → IsWithin least most (number_of value)
number least most value is = within least most (number_of value) (and_parts _ _ is).1

pub text : (most : ℕ) (value : List ℕ) → is_text most value ≡ true → IsText most value
text most value is =
    let parts = and_parts _ _ is in
    (IsUtf8-from_is_utf8 value parts.0, leb-true (characters value) most parts.1)

pub utf8 : (most : ℕ) (value : List ℕ) → (nat_le (length value) most && is_utf8 value) ≡ true → IsUtf8 value × (length value ≤ most)
utf8 most value is =
    let parts = and_parts _ _ is in
    (IsUtf8-from_is_utf8 value parts.1, leb-true (length value) most parts.0)

-- ---- lists

filled_entry : (entry : List ℕ) → is_filled entry ≡ true → is_entry entry ≡ true → IsEntry entry
filled_entry entry filled short =
    let some = eqb-false (length entry) 0 (not-true _ filled) in
    (grind (arith, some), leb-true (length entry) 64 short)

entry_each : (all : List (List ℕ)) → list_all is_entry (filter is_filled all) ≡ true → All IsEntry (filter is_filled all)
entry_each [] short = All-nil IsEntry
entry_each (first ∷ rest) short =
    elim (cases_Bool (is_filled first)) [
      | inl filled ↦
          let more = subst (λ b. list_all is_entry (cond b (first ∷ filter is_filled rest) (filter is_filled rest)) ≡ true) filled short in
          let parts = and_parts (is_entry first) _ more in
          rw filled (All-cons IsEntry first (filter is_filled rest) (filled_entry first filled parts.0) (entry_each rest parts.1))
      | inr empty ↦
          let more = subst (λ b. list_all is_entry (cond b (first ∷ filter is_filled rest) (filter is_filled rest)) ≡ true) empty short in
          rw empty (entry_each rest more)
    ]

pub list : (value : List ℕ) → is_list value ≡ true → AreEntries (entries value)
list value is =
    let parts = and_parts _ _ is in
    (leb-true _ 1000 parts.0, entry_each (slice_split is_separator value) parts.1)

-- ---- senders

-- the address of a value is one that a message can come from, or there is none
pub sender : (value : List ℕ) → IfSome (sender_of value) IsSender
sender value =
    elim (cases_Bool (is_digits most_digits (behind_plus value))) [
      | inl is ↦
          let form = digits most_digits (behind_plus value) is in
          rw is (refl, (form.0.0, form.0.1, form.1))
      | inr text ↦ elim (cases_Bool (is_sendable_text value)) [
        | inl is ↦
            let parts = within 1 11 (length value) (and_parts _ _ is).0 in
            rw (text, is) (is, omega arith)
        | inr other ↦ rw (text, other) tt
      ]
    ]
