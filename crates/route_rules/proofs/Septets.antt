-- What septets show, one by one.
use Rattle.std.proofs.Common.{◌≡◌, refl, sym, ap, ◌∙◌, ℕ, zero, suc, ◌+◌, ◌*◌, ◌-◌, ◌<◌, ◌≤◌, nat_le, Bool, true, false, not, ◌&&◌, ◌==◌, List, [], ◌∷◌, length, get_or, drop, inl, inr, arith, if◌then◌else◌, length-append}
use Rattle.std.specs.List.{list_all, flat_map}
use Rattle.std.proofs.lemmas.Bool.{cases_Bool, and_parts, eqb-true, cases_lt, le-leb, lt-leb}
use Rattle.std.proofs.lemmas.List.{get_or_past, drop_more}
use Rattle.std.proofs.lemmas.List.Folds.{list_all-append}
use Rattle.gsm_alphabet.specs.Alphabet.{default_alphabet, extension, space, plain_character, extended_character, text_of}
use Rattle.gsm_alphabet.specs.AlphabetSteps.{shown}
use Rattle.gsm_alphabet.specs.Ucs2.{ucs2_of}
use Rattle.gsm_alphabet.proofs.AlphabetLemmas.{extended_plain, text_behind, text_behind-start, text_behind-step, text_behind-end}
use Rattle.config_values.specs.Values.{is_text_octet}
use Rattle.route_rules.specs.Carriage.{as_ucs2}
use Rattle.route_rules.specs.Steps.{shows_plain}

-- a test passes at each number below n
abbrev all_below : (ℕ → Bool) → ℕ → Bool
all_below p zero = true
all_below p (suc n) = p n && all_below p n

all_below_at : (p : ℕ → Bool) (n k : ℕ) → all_below p n ≡ true → k < n → p k ≡ true
all_below_at p zero k h lt = absurd (omega arith)
all_below_at p (suc n) k h lt =
    let parts = and_parts (p n) (all_below p n) h in
    elim (cases_lt k n) [
      | inl below ↦ all_below_at p n k parts.1 below
      | inr top ↦ let e : k ≡ n = omega arith in rw e parts.0
    ]

-- ---- plain texts

abbrev same : Bool → Bool → Bool
same true b = b
same false b = not b

same-true : (a b : Bool) → same a b ≡ true → a ≡ b
same-true true true h = refl
same-true true false h = cc
same-true false true h = cc
same-true false false h = refl

-- the test of one septet says whether what it shows is plain
abbrev tells : Bool → ℕ → Bool
tells behind s = same (shows_plain behind s) (list_all is_text_octet (shown behind s))

tells_front : all_below (tells false) 256 ≡ true
unfolding default_alphabet plain_character
tells_front = refl

tells_behind : all_below (tells true) 256 ≡ true
unfolding default_alphabet extension plain_character extended_character
tells_behind = refl

shows : (behind : Bool) (s : ℕ) → s < 256 → shows_plain behind s ≡ list_all is_text_octet (shown behind s)
shows true s octet = same-true _ _ (all_below_at (tells true) 256 s tells_behind octet)
shows false s octet = same-true _ _ (all_below_at (tells false) 256 s tells_front octet)

-- a text of septets is plain where the first is and those behind it are
pub plain-step : (behind : Bool) (s : ℕ) (xs : List ℕ) → s < 256 →
    list_all is_text_octet (text_behind behind (s ∷ xs)) ≡ (shows_plain behind s && list_all is_text_octet (text_behind (not behind && (s == 27)) xs))
plain-step behind s xs octet =
    ap (list_all is_text_octet) (text_behind-step behind s xs)
    ∙ list_all-append is_text_octet (shown behind s) (text_behind (not behind && (s == 27)) xs)
    ∙ ap (λ b. b && list_all is_text_octet (text_behind (not behind && (s == 27)) xs)) (sym (shows behind s octet))

-- the same at a place of the septets
pub plain-at : (behind : Bool) (xs : List ℕ) (i : ℕ) → i < length xs → get_or xs i 0 < 256 →
    list_all is_text_octet (text_behind behind (drop i xs))
    ≡ (shows_plain behind (get_or xs i 0) && list_all is_text_octet (text_behind (not behind && (get_or xs i 0 == 27)) (drop (i + 1) xs)))
plain-at behind xs i within octet =
    ap (λ l. list_all is_text_octet (text_behind behind l)) (drop_more xs i 0 within) ∙ plain-step behind (get_or xs i 0) (drop (i + 1) xs) octet

plain_space : list_all is_text_octet (space ∷ []) ≡ true
plain_space = refl

pub plain-end : (behind : Bool) → list_all is_text_octet (text_behind behind []) ≡ true
plain-end true = ap (list_all is_text_octet) (text_behind-end true) ∙ plain_space
plain-end false = ap (list_all is_text_octet) (text_behind-end false)

-- ---- how many characters septets are

-- the characters that one septet shows
abbrev pub count_of : Bool → ℕ → ℕ
count_of behind s = if not behind && (s == 27) then 0 else 1

shown_len : (behind : Bool) (s : ℕ) → length (shown behind s) ≡ count_of behind s
shown_len true s = refl
shown_len false s = elim (cases_Bool (s == 27)) [ inl is_so ↦ rw is_so refl | inr is_not ↦ rw is_not refl ]

pub len-step : (behind : Bool) (s : ℕ) (xs : List ℕ) →
    length (text_behind behind (s ∷ xs)) ≡ count_of behind s + length (text_behind (not behind && (s == 27)) xs)
len-step behind s xs =
    ap length (text_behind-step behind s xs)
    ∙ length-append (shown behind s) (text_behind (not behind && (s == 27)) xs)
    ∙ ap (λ n. n + length (text_behind (not behind && (s == 27)) xs)) (shown_len behind s)

-- the same at a place of the septets
pub len-at : (behind : Bool) (xs : List ℕ) (i : ℕ) → i < length xs →
    length (text_behind behind (drop i xs))
    ≡ count_of behind (get_or xs i 0) + length (text_behind (not behind && (get_or xs i 0 == 27)) (drop (i + 1) xs))
len-at behind xs i within =
    ap (λ l. length (text_behind behind l)) (drop_more xs i 0 within) ∙ len-step behind (get_or xs i 0) (drop (i + 1) xs)

-- where the next one stands behind an escape, nothing is shown
pub len-escape : (behind next : Bool) (xs : List ℕ) (i count : ℕ) → i < length xs → next ≡ (not behind && (get_or xs i 0 == 27)) → next ≡ true →
    count + length (text_behind behind (drop i xs)) ≡ count + length (text_behind next (drop (i + 1) xs))
len-escape behind next xs i count within is escaped =
    let told : (not behind && (get_or xs i 0 == 27)) ≡ true = sym is ∙ escaped in
    ap (λ n. count + n) (len-at behind xs i within ∙ rw (told, escaped) (omega arith))

-- else one character is
pub len-shown : (behind next : Bool) (xs : List ℕ) (i count : ℕ) → i < length xs → next ≡ (not behind && (get_or xs i 0 == 27)) → next ≡ false →
    count + length (text_behind behind (drop i xs)) ≡ count + 1 + length (text_behind next (drop (i + 1) xs))
len-shown behind next xs i count within is escaped =
    let told : (not behind && (get_or xs i 0 == 27)) ≡ false = sym is ∙ escaped in
    let one : length (text_behind behind (drop i xs)) ≡ 1 + length (text_behind false (drop (i + 1) xs)) = len-at behind xs i within ∙ rw told refl in
    rw escaped (omega (arith, one))

pub len-end : (behind : Bool) → length (text_behind behind []) ≡ (if behind then 1 else 0)
len-end true = ap length (text_behind-end true)
len-end false = ap length (text_behind-end false)

-- ---- septets as UCS-2

-- a character has one unit of two octets
abbrev is_pair : ℕ → Bool
is_pair c = length (ucs2_of c) == 2

pair_front : all_below (λ s. is_pair (plain_character s)) 128 ≡ true
unfolding default_alphabet plain_character ucs2_of
pair_front = refl

pair_behind : all_below (λ s. is_pair (extended_character s)) 128 ≡ true
unfolding default_alphabet extension plain_character extended_character ucs2_of
pair_behind = refl

length-default_alphabet : length default_alphabet ≡ 128
unfolding default_alphabet
length-default_alphabet = refl

plain_past : (s : ℕ) → 128 ≤ s → plain_character s ≡ 0
unfolding plain_character
plain_past s past = get_or_past default_alphabet s 0 (omega (arith, length-default_alphabet))

pair_zero : is_pair 0 ≡ true
unfolding ucs2_of
pair_zero = refl

pair_space : is_pair space ≡ true
unfolding ucs2_of
pair_space = refl

plain_pair : (s : ℕ) → is_pair (plain_character s) ≡ true
plain_pair s = elim (cases_lt s 128) [
  | inl small ↦ all_below_at (λ s. is_pair (plain_character s)) 128 s pair_front small
  | inr past ↦ ap is_pair (plain_past s past) ∙ pair_zero
]

extended_past : (s : ℕ) → 128 ≤ s → plain_character s ≡ extended_character s
extended_past s past = extended_plain s (λ e. omega arith) (λ e. omega arith) (λ e. omega arith) (λ e. omega arith) (λ e. omega arith)
    (λ e. omega arith) (λ e. omega arith) (λ e. omega arith) (λ e. omega arith) (λ e. omega arith)

extended_pair : (s : ℕ) → is_pair (extended_character s) ≡ true
extended_pair s = elim (cases_lt s 128) [
  | inl small ↦ all_below_at (λ s. is_pair (extended_character s)) 128 s pair_behind small
  | inr past ↦ ap is_pair (sym (extended_past s past)) ∙ plain_pair s
]

shown_pairs : (behind : Bool) (s : ℕ) → list_all is_pair (shown behind s) ≡ true
shown_pairs true s = rw (extended_pair s) refl
shown_pairs false s = elim (cases_Bool (s == 27)) [ inl is_so ↦ rw is_so refl | inr is_not ↦ rw (is_not, plain_pair s) refl ]

all_pairs : (xs : List ℕ) (behind : Bool) → list_all is_pair (text_behind behind xs) ≡ true
all_pairs [] true = ap (list_all is_pair) (text_behind-end true) ∙ rw pair_space refl
all_pairs [] false = ap (list_all is_pair) (text_behind-end false)
all_pairs (s ∷ xs) behind =
    ap (list_all is_pair) (text_behind-step behind s xs)
    ∙ list_all-append is_pair (shown behind s) (text_behind (not behind && (s == 27)) xs)
    ∙ rw (shown_pairs behind s, all_pairs xs (not behind && (s == 27))) refl

pairs_len : (cs : List ℕ) → list_all is_pair cs ≡ true → length (flat_map ucs2_of cs) ≡ 2 * length cs
pairs_len [] all = refl
pairs_len (c ∷ cs) all =
    let parts = and_parts (is_pair c) (list_all is_pair cs) all in
    omega (arith, length-append (ucs2_of c) (flat_map ucs2_of cs), eqb-true (length (ucs2_of c)) 2 parts.0, pairs_len cs parts.1)

-- each character of septets has two octets in UCS-2
pub length-as_ucs2 : (septets : List ℕ) → length (as_ucs2 septets) ≡ 2 * length (text_of septets)
length-as_ucs2 septets = pairs_len (text_of septets) (ap (list_all is_pair) (sym (text_behind-start septets)) ∙ all_pairs septets false)

-- a count that leaves room for an escape leaves room
pub room_left : (behind : Bool) (count i : ℕ) → count + (if behind then 1 else 0) ≤ i → count ≤ i
room_left true count i most = omega arith
room_left false count i most = omega arith

-- so many characters fit beside a header as UCS-2
pub fits-as_ucs2 : (septets : List ℕ) (header characters : ℕ) → header ≤ 140 → characters ≡ length (text_of septets) →
    nat_le (2 * characters) (140 - header) ≡ nat_le (header + length (as_ucs2 septets)) 140
fits-as_ucs2 septets header characters most is =
    elim (cases_lt (140 - header) (2 * characters)) [
      | inl not_so ↦ lt-leb (2 * characters) (140 - header) not_so ∙ sym (lt-leb (header + length (as_ucs2 septets)) 140 (omega (arith, length-as_ucs2 septets)))
      | inr fits ↦ le-leb (2 * characters) (140 - header) fits ∙ sym (le-leb (header + length (as_ucs2 septets)) 140 (omega (arith, length-as_ucs2 septets)))
    ]
