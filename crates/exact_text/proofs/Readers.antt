-- Fields of text are read exactly.
use Rattle.std.proofs.Common.{◌≡◌, ℕ, zero, suc, ◌+◌, ◌-◌, ◌*◌, ◌/◌, ◌%◌, ◌^◌, ◌<◌, ◌≤◌, max, true, List, [], ◌∷◌, ◌++◌, length, Ok, refl, sym, ap, ◌∙◌, arith}
use Rattle.std.specs.Prelude.{◌&&◌}
use Rattle.std.specs.List.{flat_map, AllByRecursion}
use Rattle.std.proofs.Math.Nat.{pow-suc}
use Rattle.exact_octets.specs.Alphabet.{within}
use Rattle.exact_octets.specs.Reading.{Reader, both, made, octet_at}
use Rattle.exact_octets.proofs.Readers.{IsReader, then_reads, ◌&◌, made_reads, octet_reads, repeated_reads, given_reads, renamed_reads}
use Rattle.exact_octets.proofs.Tests.{and_true, both_true, Between, within_means, within_tests}
use Rattle.exact_text.specs.declared.characters.Characters.{Characters}
use Rattle.exact_text.specs.declared.characters.Characters.TheVariants.{Text, Field}
use Rattle.exact_text.specs.Text.{is_of, decimal, digit, mark_at, ended_at, decimal_at, characters_at, hex_octet_at}

-- ---- one given octet

pub mark_reads : (mark : ℕ) → IsReader (λ x. x ≡ mark) (λ x. x ∷ []) (mark_at mark)
mark_reads mark =
    octet_reads (within mark mark) (λ x. x ≡ mark)
    (λ x fits e. let w = within_means mark mark x e in omega (arith, w.0, w.1))
    (λ x e. within_tests mark mark x (omega (arith, e), omega (arith, e)))
    (mark, refl)

-- a value with the mark behind it
pub ended_reads : {A : Type 0} {Good : A → Type 0} {spelled : A → List ℕ} {read : Reader A} (mark : ℕ)
    → IsReader Good spelled read → IsReader Good (λ a. spelled a ++ mark ∷ []) (ended_at mark read)
ended_reads {A = A} {spelled = spelled} mark reads =
    made_reads (λ (x : A × ℕ). x.0) (reads & mark_reads mark)
    (record {
      there = λ p good. (good.0, ap (λ (m : ℕ). spelled p.0 ++ m ∷ []) (sym good.1));
      back = λ a good. ((a, mark), (good, refl), refl, refl);
    })

-- ---- decimals

-- a last digit behind the others
abbrev Low : ℕ → ℕ → ℕ → ℕ → Type 0
Low least most high octet = Between 48 57 octet × Between least most (high * 10 + (octet - 48))

low_reads : (least most high : ℕ) → least ≤ most → Between (least / 10) (most / 10) high
    → IsReader (Low least most high) (λ x. x ∷ []) (octet_at (λ octet. within 48 57 octet && within least most (high * 10 + (octet - 48))))
low_reads least most high some good =
    octet_reads (λ octet. within 48 57 octet && within least most (high * 10 + (octet - 48))) (Low least most high)
    (λ x below e. let t = and_true (within 48 57 x) (within least most (high * 10 + (x - 48))) e in (within_means 48 57 x t.0, within_means least most (high * 10 + (x - 48)) t.1))
    (λ x good. both_true (within 48 57 x) (within least most (high * 10 + (x - 48))) (within_tests 48 57 x good.0) (within_tests least most (high * 10 + (x - 48)) good.1))
    (48 + (max least (high * 10) - high * 10), ((omega arith, omega (arith, good.0, good.1)), (omega (arith, good.0, good.1), omega (arith, some, good.0, good.1))))

decimal-joined : (width high octet : ℕ) → Between 48 57 octet → decimal (suc width) (high * 10 + (octet - 48)) ≡ decimal width high ++ octet ∷ []
unfolding decimal
decimal-joined width high octet within =
    let h : (high * 10 + (octet - 48)) / 10 ≡ high = omega (arith, within.0, within.1) in
    let l : 48 + (high * 10 + (octet - 48)) % 10 ≡ octet = omega (arith, within.0, within.1) in
    ap (λ (n : ℕ). decimal width n ++ (48 + (high * 10 + (octet - 48)) % 10) ∷ []) h ∙ ap (λ (n : ℕ). decimal width high ++ n ∷ []) l

decimal-suc : (width n : ℕ) → decimal (suc width) n ≡ decimal width (n / 10) ++ (48 + n % 10) ∷ []
unfolding decimal
decimal-suc width n = refl

decimal-zero : (n : ℕ) → decimal zero n ≡ []
unfolding decimal
decimal-zero n = refl

-- for the function that writes it
pub digits_none : (width n : ℕ) → width ≡ 0 → decimal width n ≡ []
unfolding decimal
digits_none zero n none = refl
digits_none (suc width) n none = absurd (omega arith)

pub digits_some : (width n : ℕ) → (width ≡ 0 → ⊥) → decimal width n ≡ decimal (width - 1) (n / 10) ++ (48 + n % 10) ∷ []
unfolding decimal
digits_some zero n some = absurd (some refl)
digits_some (suc width) n some =
    let e : suc width - 1 ≡ width = omega arith in
    rw e refl

-- a number in so many decimal digits is read exactly
pub decimal_reads : (width least most : ℕ) → least ≤ most → most < 10 ^ width → IsReader (Between least most) (decimal width) (decimal_at width least most)
unfolding decimal_at
decimal_reads zero least most some short =
    renamed_reads (given_reads 0)
    (λ n e. (omega (arith, e, some, short), omega (arith, e)))
    (λ n good. omega (arith, good.1, short))
    (λ n e. sym (decimal-zero n))
decimal_reads (suc width) least most some short =
    let all : most < 10 ^ width * 10 = rw pow-suc at short in
    made_reads (λ (x : ℕ × ℕ). x.0 * 10 + (x.1 - 48))
    (then_reads (decimal_reads width (least / 10) (most / 10) (omega (arith, some)) (omega (arith, all))) (λ high good. low_reads least most high some good))
    (record {
      there = λ p good. (good.1.1, decimal-joined width p.0 p.1 good.1.0);
      back = λ n good.
          let whole : n / 10 * 10 + (48 + n % 10 - 48) ≡ n = omega arith in
          ((n / 10, 48 + n % 10), ((omega (arith, good.0), omega (arith, good.1)), ((omega arith, omega arith), (omega (arith, whole, good.0), omega (arith, whole, good.1)))), whole, sym (decimal-suc width n));
    })

pub decimal_none : (width least most : ℕ) (octets : List ℕ) → width ≡ 0 → decimal_at width least most octets ≡ Ok (0, octets)
unfolding decimal_at
decimal_none zero least most octets none = refl
decimal_none (suc width) least most octets none = absurd (omega arith)

pub decimal_some : (width least most : ℕ) (octets : List ℕ) → (width ≡ 0 → ⊥)
    → decimal_at width least most octets ≡ made (λ (x : ℕ × ℕ). x.0 * 10 + (x.1 - 48)) (both (decimal_at (width - 1) (least / 10) (most / 10)) (λ high. octet_at (λ octet. within 48 57 octet && within least most (high * 10 + (octet - 48))))) octets
unfolding decimal_at
decimal_some zero least most octets some = absurd (some refl)
decimal_some (suc width) least most octets some =
    let e : suc width - 1 ≡ width = omega arith in
    rw e refl

-- ---- characters

abbrev pub IsOf : Characters → ℕ → Type 0
IsOf characters octet = is_of characters octet ≡ true

an_a : (characters : Characters) → IsOf characters 65
an_a Text = refl
an_a Field = refl

pub character_reads : (characters : Characters) → IsReader (IsOf characters) (λ x. x ∷ []) (octet_at (is_of characters))
character_reads characters = octet_reads (is_of characters) (IsOf characters) (λ x fits e. e) (λ x e. e) (65, an_a characters)

singles : (xs : List ℕ) → flat_map (λ (x : ℕ). x ∷ []) xs ≡ xs
singles [] = refl
singles (x ∷ xs) = ap (λ (t : List ℕ). x ∷ t) (singles xs)

-- so many characters
abbrev pub AreOf : Characters → ℕ → List ℕ → Type 0
AreOf characters n xs = (length xs ≡ n) × AllByRecursion (IsOf characters) xs

pub characters_reads : (characters : Characters) (n : ℕ) → IsReader (AreOf characters n) (λ xs. xs) (characters_at characters n)
characters_reads characters n = renamed_reads (repeated_reads (character_reads characters) n) (λ xs good. good) (λ xs good. good) (λ xs good. singles xs)

-- ---- an octet in hex digits

pub hex_octet_reads : (octet : ℕ) → IsReader (λ (p : ℕ × ℕ). (p.0 ≡ digit (octet / 16)) × (p.1 ≡ digit (octet % 16))) (λ p. (p.0 ∷ []) ++ (p.1 ∷ [])) (hex_octet_at octet)
unfolding hex_octet_at
hex_octet_reads octet = mark_reads (digit (octet / 16)) & mark_reads (digit (octet % 16))
