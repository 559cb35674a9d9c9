-- An address is read exactly.
use Rattle.std.proofs.Common.{◌≡◌, ℕ, zero, suc, ◌≤◌, true, false, List, [], length, All, refl, arith}
use Rattle.exact_octets.specs.declared.alphabet.Alphabet.TheVariants.{Digit}
use Rattle.exact_octets.specs.Alphabet.{within, IsDigit}
use Rattle.exact_octets.specs.Reading.{made}
use Rattle.exact_octets.specs.Spelling.{short}
use Rattle.exact_octets.proofs.Readers.{IsReader, made_reads}
use Rattle.exact_octets.proofs.Tests.{Between, within_means}
use Rattle.exact_octets.proofs.Fields.{short_reads, octets_reads}
use Rattle.exact_octets.proofs.Choices.{kind_reads}
use Rattle.sms_record.specs.declared.address.Address.{Address}
use Rattle.sms_record.specs.declared.address.Address.TheVariants.{Number, Text}
use Rattle.sms_record.specs.Limits.{most_digits, most_address_text}
use Rattle.sms_record.specs.Record.{IsAddress, address_kind, address_text, address}
use Rattle.sms_record.specs.RecordReading.{address_text_at, address_of, address_at}

-- an address of a kind
abbrev IsOfKind : ℕ → Address → Type 0
IsOfKind kind a = IsAddress a × (address_kind a ≡ kind)

abbrev text_octets : Address → List ℕ
text_octets a = short (address_text a)

plain_back : (a : Address) → IsOfKind 0 a → (digits : List ℕ) × (Between 1 most_digits (length digits) × All IsDigit digits) × (address_of 0 digits ≡ a) × (short digits ≡ text_octets a)
plain_back (Number false digits) good = (digits, ((good.0.0, good.0.1), good.0.2), refl, refl)
plain_back (Number true digits) good = absurd (omega (arith, good.1))
plain_back (Text text) good = absurd (omega (arith, good.1))

plus_back : (a : Address) → IsOfKind 1 a → (digits : List ℕ) × (Between 1 most_digits (length digits) × All IsDigit digits) × (address_of 1 digits ≡ a) × (short digits ≡ text_octets a)
plus_back (Number false digits) good = absurd (omega (arith, good.1))
plus_back (Number true digits) good = (digits, ((good.0.0, good.0.1), good.0.2), refl, refl)
plus_back (Text text) good = absurd (omega (arith, good.1))

text_back : (a : Address) → IsOfKind 2 a → (text : List ℕ) × (length text ≤ most_address_text) × (address_of 2 text ≡ a) × (short text ≡ text_octets a)
text_back (Number false digits) good = absurd (omega (arith, good.1))
text_back (Number true digits) good = absurd (omega (arith, good.1))
text_back (Text text) good = (text, good.0, refl, refl)

kind_text_reads : (kind : ℕ) → within 0 2 kind ≡ true → IsReader (IsOfKind kind) text_octets (made (address_of kind) (address_text_at kind))
kind_text_reads zero e = made_reads (address_of 0) (short_reads 1 most_digits Digit (omega arith)) (record { there = λ digits good. (((good.0.0, good.0.1, good.1), refl), refl); back = plain_back })
kind_text_reads (suc zero) e = made_reads (address_of 1) (short_reads 1 most_digits Digit (omega arith)) (record { there = λ digits good. (((good.0.0, good.0.1, good.1), refl), refl); back = plus_back })
kind_text_reads (suc (suc zero)) e = made_reads (address_of 2) (octets_reads most_address_text) (record { there = λ text good. ((good, refl), refl); back = text_back })
kind_text_reads (suc (suc (suc kind))) e = absurd (omega (arith, (within_means 0 2 (suc (suc (suc kind))) e).1))

kind_within : (a : Address) → IsAddress a → within 0 2 (address_kind a) ≡ true
kind_within (Number false digits) good = refl
kind_within (Number true digits) good = refl
kind_within (Text text) good = refl

pub address_reads : IsReader IsAddress address address_at
unfolding address_at
address_reads = kind_reads (within 0 2) address_kind kind_text_reads kind_within (Text [], omega arith)
