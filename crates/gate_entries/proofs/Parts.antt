-- The fields of entries are read exactly.
use Rattle.std.proofs.Common.{◌≡◌, ℕ, zero, suc, ◌-◌, ◌^◌, ◌≤◌, true, List, [], ◌∷◌, ◌++◌, length, All, Some, refl, sym, ap, arith}
use Rattle.std.specs.Prelude.{⊤}
use Rattle.std.specs.List.{flat_map, AllByRecursion}
use Rattle.std.proofs.lemmas.List.Elements.{All-from_recursion, recursion_from_All}
use Rattle.exact_octets.specs.Numbers.{number}
use Rattle.exact_octets.specs.Spelling.{long}
use Rattle.exact_octets.specs.Alphabet.{within}
use Rattle.exact_octets.specs.Reading.{value_of}
use Rattle.exact_octets.proofs.Readers.{IsReader, then_reads, ◌&◌, made_reads, given_reads, repeated_reads, renamed_reads, reworded_reads}
use Rattle.exact_octets.proofs.Tests.{Between, within_means}
use Rattle.exact_octets.proofs.Digits.{from_to_reads, up_to_reads}
use Rattle.exact_octets.proofs.Fields.{counted_octets_reads}
use Rattle.exact_octets.proofs.Choices.{code_reads, kind_reads}
use Rattle.sms_record.specs.declared.kind.Kind.{Kind}
use Rattle.sms_record.specs.declared.kind.Kind.TheVariants.{Delivered, Undelivered, Buffered, Sent, Refused}
use Rattle.sms_record.specs.declared.sms.Sms.{Sms}
use Rattle.sms_record.specs.Record.{IsSms, sms_octets}
use Rattle.sms_record.proofs.Messages.{sms_reads}
use Rattle.gate_entries.specs.Limits.{most_messages, most_arrivals, most_text}
use Rattle.gate_entries.specs.declared.cause.Cause.{Cause}
use Rattle.gate_entries.specs.declared.cause.Cause.TheVariants.{Centre, Expired}
use Rattle.gate_entries.specs.declared.call_dropped.DropCause.{DropCause}
use Rattle.gate_entries.specs.declared.call_dropped.DropCause.TheVariants.{BadUrl, Tries}
use Rattle.gate_entries.specs.Entry.{IsNumber, IsText, ids, numbers, messages, IsCause, cause_octets, kind_value, IsReportKind, drop_code}
use Rattle.gate_entries.specs.EntryReading.{number_at, text_at, ids_at, messages_at, arrivals_at, cause_behind, cause_at, report_kinds, report_kind_at, drop_causes, drop_cause_at}

-- ---- numbers and texts

pub any_number_reads : IsReader IsNumber (number 8) number_at
any_number_reads = reworded_reads (up_to_reads 8 (2 ^ 64 - 1) (omega arith)) (λ n good. omega (arith, good)) (λ n good. omega (arith, good))

pub long_text_reads : IsReader IsText long text_at
long_text_reads = counted_octets_reads 2 most_text (omega arith)

-- a pair of ids
abbrev pub AreIds : List ℕ × List ℕ → Type 0
AreIds p = IsText p.0 × IsText p.1

pub ids_reads : IsReader AreIds (λ p. ids p.0 p.1) ids_at
ids_reads = long_text_reads & long_text_reads

-- ---- lists behind how many they have

-- from so many to so many of them, each good
abbrev pub Counted : {A : Type 0} → (A → Type 0) → ℕ → ℕ → List A → Type 0
Counted Good least most xs = (least ≤ length xs) × (length xs ≤ most) × All Good xs

abbrev listed : {A : Type 0} → (A → List ℕ) → List A → List ℕ
listed spelled xs = number 2 (length xs) ++ flat_map spelled xs

module _ {A : Type 0} (Good : A → Type 0) (spelled : A → List ℕ) where
  abbrev Behind : ℕ → ℕ → ℕ × List A → Type 0
  Behind least most p = Between least most p.0 × ((length p.1 ≡ p.0) × AllByRecursion Good p.1)

  abbrev behind_octets : ℕ × List A → List ℕ
  behind_octets p = number 2 p.0 ++ flat_map spelled p.1

  pub listed_there : (least most : ℕ) (p : ℕ × List A) → Behind least most p → Counted Good least most p.1 × (listed spelled p.1 ≡ behind_octets p)
  listed_there least most p good = (
    (omega (arith, good.0.0, good.1.0), omega (arith, good.0.1, good.1.0), All-from_recursion Good p.1 good.1.1),
    ap (λ (n : ℕ). number 2 n ++ flat_map spelled p.1) good.1.0,
  )

  pub listed_back : (least most : ℕ) (xs : List A) → Counted Good least most xs → (p : ℕ × List A) × Behind least most p × (p.1 ≡ xs) × (behind_octets p ≡ listed spelled xs)
  listed_back least most xs good = ((length xs, xs), ((good.0, good.1), (refl, recursion_from_All Good xs good.2)), refl, refl)

pub messages_reads : (least : ℕ) → least ≤ most_messages → IsReader (Counted IsSms least most_messages) messages (messages_at least)
unfolding messages_at
messages_reads least le =
    made_reads (λ (x : ℕ × List Sms). x.1)
    (then_reads (from_to_reads 2 least most_messages le (omega arith)) (λ count good. repeated_reads sms_reads count))
    (record { there = listed_there IsSms sms_octets least most_messages; back = listed_back IsSms sms_octets least most_messages })

pub arrivals_reads : IsReader (Counted IsNumber 1 most_arrivals) numbers arrivals_at
unfolding arrivals_at
arrivals_reads =
    made_reads (λ (x : ℕ × List ℕ). x.1)
    (then_reads (from_to_reads 2 1 most_arrivals (omega arith) (omega arith)) (λ count good. repeated_reads any_number_reads count))
    (record { there = listed_there IsNumber (number 8) 1 most_arrivals; back = listed_back IsNumber (number 8) 1 most_arrivals })

-- ---- what an octet names

abbrev cause_kind : Cause → ℕ
cause_kind (Centre code) = 0
cause_kind Expired = 1

abbrev cause_rest : Cause → List ℕ
cause_rest (Centre code) = number 4 code
cause_rest Expired = []

abbrev IsCauseOf : ℕ → Cause → Type 0
IsCauseOf kind cause = IsCause cause × (cause_kind cause ≡ kind)

centre_back : (cause : Cause) → IsCauseOf 0 cause → (code : ℕ) × (code ≤ 2 ^ 32 - 1) × (Centre code ≡ cause) × (number 4 code ≡ cause_rest cause)
centre_back (Centre code) good = (code, omega (arith, good.0), refl, refl)
centre_back Expired good = absurd (omega (arith, good.1))

expired_good : (cause : Cause) → cause ≡ Expired → IsCauseOf 1 cause
expired_good (Centre code) e = absurd cc
expired_good Expired e = (tt, refl)

expired_only : (cause : Cause) → IsCauseOf 1 cause → cause ≡ Expired
expired_only (Centre code) good = absurd (omega (arith, good.1))
expired_only Expired good = refl

cause_behind_reads : (kind : ℕ) → within 0 1 kind ≡ true → IsReader (IsCauseOf kind) cause_rest (cause_behind kind)
cause_behind_reads zero e = made_reads Centre (up_to_reads 4 (2 ^ 32 - 1) (omega arith)) (record { there = λ code good. ((omega (arith, good), refl), refl); back = centre_back })
cause_behind_reads (suc zero) e = renamed_reads (given_reads Expired) expired_good expired_only (λ cause is. ap cause_rest (sym is))
cause_behind_reads (suc (suc kind)) e = absurd (omega (arith, (within_means 0 1 (suc (suc kind)) e).1))

cause_within : (cause : Cause) → IsCause cause → within 0 1 (cause_kind cause) ≡ true
cause_within (Centre code) good = refl
cause_within Expired good = refl

cause_spelled : (cause : Cause) → IsCause cause → cause_kind cause ∷ cause_rest cause ≡ cause_octets cause
cause_spelled (Centre code) good = refl
cause_spelled Expired good = refl

pub cause_reads : IsReader IsCause cause_octets cause_at
unfolding cause_at
cause_reads = renamed_reads (kind_reads (within 0 1) cause_kind cause_behind_reads cause_within (Expired, tt)) (λ cause good. good) (λ cause good. good) cause_spelled

report_kind_again : (kind : Kind) → IsReportKind kind → value_of kind_value report_kinds (kind_value kind) ≡ Some kind
report_kind_again Delivered good = refl
report_kind_again Undelivered good = refl
report_kind_again Buffered good = refl
report_kind_again Sent good = absurd good
report_kind_again Refused good = absurd good

pub report_kind_reads : IsReader IsReportKind (λ kind. kind_value kind ∷ []) report_kind_at
unfolding report_kind_at
report_kind_reads = code_reads kind_value report_kinds IsReportKind (tt, (tt, (tt, tt))) report_kind_again (Delivered, tt)

drop_cause_again : (cause : DropCause) → value_of drop_code drop_causes (drop_code cause) ≡ Some cause
drop_cause_again BadUrl = refl
drop_cause_again Tries = refl

pub drop_cause_reads : IsReader (λ cause. ⊤) (λ cause. drop_code cause ∷ []) drop_cause_at
unfolding drop_cause_at
drop_cause_reads = code_reads drop_code drop_causes (λ cause. ⊤) (tt, (tt, tt)) (λ cause good. drop_cause_again cause) (BadUrl, tt)
