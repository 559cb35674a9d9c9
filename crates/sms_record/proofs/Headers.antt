-- A user data header is read exactly.
use Rattle.std.proofs.Common.{◌≡◌, ℕ, ◌+◌, ◌-◌, ◌<◌, ◌≤◌, true, eqb, leb, List, [], ◌∷◌, length, refl, sym, ap, subst, length-append, arith}
use Rattle.std.specs.Prelude.{not, ⊤}
use Rattle.std.specs.List.{AllByRecursion}
use Rattle.std.proofs.lemmas.Bool.{leb-true, le-leb, ne_eqb, eqb-false, not-true}
use Rattle.exact_octets.specs.declared.alphabet.Alphabet.TheVariants.{Any}
use Rattle.exact_octets.specs.Reading.{octet_at}
use Rattle.exact_octets.proofs.Readers.{IsReader, then_reads, ◌&◌, made_reads, octet_reads, reworded_reads}
use Rattle.exact_octets.proofs.Tests.{and_true, both_true}
use Rattle.exact_octets.proofs.Fields.{letter_reads, text_reads}
use Rattle.exact_octets.proofs.Filled.{Leaves, filled_reads}
use Rattle.sms_record.specs.Header.{Element, element, elements, header}
use Rattle.sms_record.specs.HeaderReading.{is_value_len, element_of, element_at, elements_at, is_count, header_at}

-- ---- elements

-- how many octets the value of an element may have, where so many are left
abbrev pub IsValueLen : ℕ → ℕ → Type 0
IsValueLen left len = (len + 2 ≤ left) × (len + 3 ≡ left → ⊥)

value_len_means : (left len : ℕ) → is_value_len left len ≡ true → IsValueLen left len
value_len_means left len e =
    let t = and_true (leb (len + 2) left) (not (eqb (len + 3) left)) e in
    (leb-true (len + 2) left t.0, eqb-false (len + 3) left (not-true (eqb (len + 3) left) t.1))

value_len_tests : (left len : ℕ) → IsValueLen left len → is_value_len left len ≡ true
value_len_tests left len good = both_true (leb (len + 2) left) (not (eqb (len + 3) left)) (le-leb (len + 2) left good.0) (ap not (ne_eqb (len + 3) left good.1))

value_len_reads : (left : ℕ) → 2 ≤ left → IsReader (IsValueLen left) (λ x. x ∷ []) (octet_at (is_value_len left))
value_len_reads left le = octet_reads (is_value_len left) (IsValueLen left) (λ x fits e. value_len_means left x e) (value_len_tests left) (left - 2, (omega arith, λ e. omega arith))

-- an element that leaves no octet, or two at least
abbrev pub IsElement : ℕ → Element → Type 0
IsElement left e = IsValueLen left (length e.value)

-- an element is read exactly
pub element_reads : (left : ℕ) → 2 ≤ left → IsReader (IsElement left) element (element_at left)
unfolding element_at
element_reads left le =
    made_reads (λ (x : ℕ × (ℕ × List ℕ)). element_of x.0 x.1.1)
    (letter_reads Any & then_reads (value_len_reads left le) (λ len good. text_reads Any len))
    (record {
      there = λ p good. (subst (IsValueLen left) (sym good.1.1.0) good.1.0, ap (λ (n : ℕ). p.0 ∷ n ∷ p.1.1) good.1.1.0);
      back = λ e good. ((e.id, (length e.value, e.value)), (tt, (good, (refl, λ k d lt. tt))), refl, refl);
    })

-- elements have no octet or two at least
pub not_one : (es : List Element) → length (elements es) ≡ 1 → ⊥
not_one [] e = absurd (omega arith)
not_one (x ∷ es) e = omega (arith, length-append x.value (elements es))

-- elements fill any number of octets but one
abbrev NotOne : ℕ → Type 0
NotOne left = left ≡ 1 → ⊥

any_element : Element → Type 0
any_element e = ⊤

all_elements : (es : List Element) → AllByRecursion (λ (e : Element). ⊤) es
all_elements [] = tt
all_elements (e ∷ es) = (tt, all_elements es)

-- elements that fill so many octets
abbrev pub Fills : ℕ → List Element → Type 0
Fills left es = length (elements es) ≡ left

-- an element that leaves octets that can be filled
leaves_reads : (left : ℕ) → 0 < left → NotOne left → IsReader (Leaves (λ (e : Element). ⊤) element element_at NotOne left) element (element_at left)
leaves_reads left some can =
    reworded_reads (element_reads left (omega (arith, some, can)))
    (λ e good. (tt, omega (arith, good.0), λ one. good.1 (omega (arith, one))))
    (λ e good. (omega (arith, good.1), λ one. good.2 (omega (arith, one))))

-- elements that fill so many octets are read exactly
pub elements_reads : (left : ℕ) → (left ≡ 1 → ⊥) → IsReader (Fills left) elements (elements_at left)
elements_reads left can =
    reworded_reads (filled_reads (λ (e : Element). ⊤) element element_at NotOne leaves_reads (λ e good. omega arith) (λ es good. not_one es) left can)
    (λ es fill. fill.1) (λ es fills. (all_elements es, fills))

-- ---- a header

count_reads : IsReader (λ count. (count < 256) × (count ≡ 1 → ⊥)) (λ x. x ∷ []) (octet_at is_count)
count_reads = octet_reads is_count (λ count. (count < 256) × (count ≡ 1 → ⊥)) (λ x fits e. (fits, eqb-false x 1 (not-true (eqb x 1) e))) (λ x good. ap not (ne_eqb x 1 good.1)) (0, (omega arith, λ e. omega arith))

-- a header of any length that one octet can say is read exactly
pub header_reads : IsReader (λ es. length (elements es) < 256) header header_at
unfolding header_at
header_reads =
    made_reads (λ (x : ℕ × List Element). x.1) (then_reads count_reads (λ count good. elements_reads count good.1))
    (record {
      there = λ p good. (omega (arith, good.1, good.0.0), ap (λ (n : ℕ). n ∷ elements p.1) good.1);
      back = λ es good. ((length (elements es), es), ((good, not_one es), refl), refl, refl);
    })
