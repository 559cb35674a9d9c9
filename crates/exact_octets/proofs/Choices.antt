-- Values that their first octet names are read exactly: those of a table, and those of several kinds.
use Rattle.std.proofs.Common.{◌≡◌, ℕ, Bool, true, cond, eqb, List, [], ◌∷◌, Option, Some, None, refl, sym, ap, subst, ◌∙◌, inl, inr}
use Rattle.std.specs.List.{AllByRecursion}
use Rattle.std.proofs.lemmas.Bool.{cases_Bool, eqb-true}
use Rattle.exact_octets.specs.Reading.{Reader, value_of, named, code_at, kind_at}
use Rattle.exact_octets.proofs.Readers.{AreOctets, Answers, IsReader, then_reads, made_reads, octet_reads}

-- ---- a table: the values are good, and each good value is the first with its code

module _ {A : Type 0} (code : A → ℕ) (values : List A) (Good : A → Type 0) (each : AllByRecursion Good values) (again : (a : A) → Good a → value_of code values (code a) ≡ Some a) (one : (a : A) × Good a) where
  -- what is found is good, and has that code
  found : (octet : ℕ) (vs : List A) (a : A) → AllByRecursion Good vs → value_of code vs octet ≡ Some a → Good a × (code a ≡ octet)
  found octet [] a all e = absurd cc
  found octet (v ∷ vs) a all e =
      elim (cases_Bool (eqb (code v) octet)) [
        | inl same ↦
            let first : Some v ≡ Some a = sym (ap (λ (b : Bool). cond b (Some v) (value_of code vs octet)) same) ∙ e in
            let v-is : v ≡ a = cc in
            (subst Good v-is all.0, ap code (sym v-is) ∙ eqb-true (code v) octet same)
        | inr other ↦ found octet vs a all.1 (sym (ap (λ (b : Bool). cond b (Some v) (value_of code vs octet)) other) ∙ e)
      ]

  named_answers : (octet : ℕ) (rest : List ℕ) (o : Option A) → value_of code values octet ≡ o → Answers Good (λ a. code a ∷ []) (octet ∷ rest) (named o rest)
  named_answers octet rest (Some a) e =
      let f = found octet values a each e in
      (f.0, ap (λ (x : ℕ). x ∷ rest) (sym f.1))
  named_answers octet rest None e = record {
    front = [];
    octet = octet;
    rest = rest;
    parts = refl;
    at = refl;
    begins = record { value = one.0; more = code one.0 ∷ []; good = one.1; whole = refl };
    ends = λ b.
        let same : octet ≡ code b.value = cc (b.whole) in
        let none : value_of code values (code b.value) ≡ None = ap (value_of code values) (sym same) ∙ e in
        cc (none, again b.value b.good);
  }

  code_answers : (octets : List ℕ) → AreOctets octets → Answers Good (λ a. code a ∷ []) octets (code_at code values octets)
  code_answers [] fits = record { value = one.0; more = code one.0 ∷ []; good = one.1; whole = refl; some = λ none. cc }
  code_answers (octet ∷ rest) fits = named_answers octet rest (value_of code values octet) refl

  pub code_reads : IsReader Good (λ a. code a ∷ []) (code_at code values)
  code_reads = record { one = one; again = λ a rest good. ap (λ (o : Option A). named o rest) (again a good); answers = code_answers }

-- ---- kinds: what stands behind the octet of a kind is read its own way

pub kind_reads : {A : Type 0} {Good : A → Type 0} {spelled : A → List ℕ} {read : ℕ → Reader A} (allowed : ℕ → Bool) (kind : A → ℕ)
    → ((k : ℕ) → allowed k ≡ true → IsReader (λ a. Good a × (kind a ≡ k)) spelled (read k)) → ((a : A) → Good a → allowed (kind a) ≡ true) → ((a : A) × Good a)
    → IsReader Good (λ a. kind a ∷ spelled a) (kind_at allowed read)
kind_reads {spelled = spelled} allowed kind reads some one =
    made_reads (λ (x : ℕ × _). x.1)
    (then_reads (octet_reads allowed (λ k. allowed k ≡ true) (λ k fits e. e) (λ k e. e) (kind one.0, some one.0 one.1)) reads)
    (record {
      there = λ p good. (good.1.0, ap (λ (k : ℕ). k ∷ spelled p.1) good.1.1);
      back = λ a good. ((kind a, a), (some a good, (good, refl)), refl, refl);
    })
