-- The facts of the alphabet's table: each is a test that the check computes over the whole table, and a lemma that makes
-- of the test the rule at each entry.
use Rattle.std.proofs.Common.{◌≡◌, ◌≢◌, ℕ, zero, suc, ◌+◌, ◌-◌, ◌<◌, ◌≤◌, Bool, true, false, cond, not, ◌&&◌, ◌||◌, ◌==◌, nat_lt, nat_le, Option, None, Some, List, [], ◌∷◌, ◌++◌, length, slice_index, All, Contains, position, IfSome, refl, sym, ap, ap₂, ◌∙◌, subst, arith, inl, inr, ◌⊎◌}
use Rattle.std.specs.List.{list_all, find, flat_map, prefix_len, position_or_len}
use Rattle.std.specs.Option.{option_map}
use Rattle.std.proofs.lemmas.Bool.{and_parts, eqb-true, ne_eqb, ltb-true, le-ltb, le-leb, lt-leb, both_ways, cases_lt, cond-false, cond_both, false≢true, not-true}
use Rattle.std.proofs.lemmas.List.Elements.{All-cons, All-nil, All-append, All-head, All-tail}
use Rattle.std.proofs.lemmas.List.Recursion.{and_at}
use Rattle.gsm_alphabet.specs.Alphabet.{default_alphabet, extension, characters, escape, question_mark, space, septets_at, septets_of, plain_character, extended_character, text_of}
use Rattle.gsm_alphabet.specs.AlphabetSteps.{septets_of_code, shown}
use Rattle.gsm_alphabet.specs.declared.alphabet.TheConstants.{LATIN, GREEK}

-- two lists of numbers are the same
same_list : List ℕ → List ℕ → Bool
same_list [] [] = true
same_list [] (y ∷ ys) = false
same_list (x ∷ xs) [] = false
same_list (x ∷ xs) (y ∷ ys) = (x == y) && same_list xs ys

same_list-true : (xs ys : List ℕ) → same_list xs ys ≡ true → xs ≡ ys
unfolding same_list
same_list-true [] [] h = refl
same_list-true [] (y ∷ ys) h = absurd (false≢true h)
same_list-true (x ∷ xs) [] h = absurd (false≢true h)
same_list-true (x ∷ xs) (y ∷ ys) h =
    let parts = and_parts (x == y) (same_list xs ys) h in
    ap₂ (λ z zs. z ∷ zs) (eqb-true x y parts.0) (same_list-true xs ys parts.1)

-- a test passes at each number below n
abbrev all_below : (ℕ → Bool) → ℕ → Bool
all_below p zero = true
all_below p (suc n) = p n && all_below p n

all_below_at : (p : ℕ → Bool) (n k : ℕ) → all_below p n ≡ true → k < n → p k ≡ true
all_below_at p zero k h lt = absurd (omega arith)
all_below_at p (suc n) k h lt =
    let parts = and_parts (p n) (all_below p n) h in
    elim (cases_lt k n) [
      | inl below ↦ all_below_at p n k parts.1 below
      | inr top ↦
          let e : k ≡ n = omega arith in
          rw e parts.0
    ]

-- the table of U+0000 to U+00FF has the codes of the alphabet
latin_agrees : all_below (λ c. same_list (septets_of_code (slice_index LATIN c)) (septets_of c)) 256 ≡ true
unfolding septets_of default_alphabet extension same_list
latin_agrees = refl

pub latin_code : (c : ℕ) → c < 256 → septets_of_code (slice_index LATIN c) ≡ septets_of c
latin_code c low = same_list-true _ _ (all_below_at (λ x. same_list (septets_of_code (slice_index LATIN x)) (septets_of x)) 256 c latin_agrees low)

-- the table of U+0390 to U+03AF has them too
greek_agrees : all_below (λ k. same_list (septets_of_code (slice_index GREEK k)) (septets_of (0x390 + k))) 32 ≡ true
unfolding septets_of default_alphabet extension same_list
greek_agrees = refl

pub greek_code : (c : ℕ) → 0x390 ≤ c → c < 0x3B0 → septets_of_code (slice_index GREEK (c - 0x390)) ≡ septets_of c
greek_code c low high =
    let k = c - 0x390 in
    let e : 0x390 + k ≡ c = omega arith in
    same_list-true _ _ (all_below_at (λ x. same_list (septets_of_code (slice_index GREEK x)) (septets_of (0x390 + x))) 32 k greek_agrees (omega arith))
    ∙ ap septets_of e

-- the euro sign stands behind the escape
euro : septets_of_code (0x80 + 0x65) ≡ septets_of 0x20AC
unfolding septets_of default_alphabet extension
euro = refl

pub euro_code : (c : ℕ) → c ≡ 0x20AC → septets_of_code (0x80 + 0x65) ≡ septets_of c
euro_code c e = euro ∙ ap septets_of (sym e)

-- the characters that may be in the alphabet: below U+0100, Greek, or the euro sign
is_near : ℕ → Bool
is_near c = nat_lt c 0x100 || ((nat_le 0x390 c && nat_lt c 0x3B0) || (c == 0x20AC))

default_is_near : list_all is_near default_alphabet ≡ true
unfolding default_alphabet is_near
default_is_near = refl

extension_is_near : list_all (λ entry. is_near entry.1) extension ≡ true
unfolding extension is_near
extension_is_near = refl

-- a character that fails a test which the whole list passes stands nowhere in it
prefix_len-absent : (p : ℕ → Bool) (c : ℕ) (xs : List ℕ) → list_all p xs ≡ true → p c ≡ false → prefix_len (λ x. not (x == c)) xs ≡ length xs
prefix_len-absent p c [] all fails = refl
prefix_len-absent p c (x ∷ xs) all fails =
    let parts = and_parts (p x) (list_all p xs) all in
    let other : (x == c) ≡ false = ne_eqb x c (λ e. both_ways (p x) (ap p e ∙ fails) parts.0) in
    rw other (omega (arith, prefix_len-absent p c xs parts.1 fails))

position-absent : (p : ℕ → Bool) (c : ℕ) (xs : List ℕ) → list_all p xs ≡ true → p c ≡ false → position (λ x. x == c) xs ≡ None
position-absent p c xs all fails =
    let n = prefix_len (λ x. not (x == c)) xs in
    let end : n ≡ length xs = prefix_len-absent p c xs all fails in
    cond-false (nat_lt n (length xs)) (Some n) None (le-ltb n (length xs) (omega arith))

find-absent : (p : ℕ → Bool) (c : ℕ) (xs : List (ℕ × ℕ)) → list_all (λ entry. p entry.1) xs ≡ true → p c ≡ false → find (λ entry. entry.1 == c) xs ≡ None
find-absent p c [] all fails = refl
find-absent p c (x ∷ xs) all fails =
    let parts = and_parts (p x.1) (list_all (λ entry. p entry.1) xs) all in
    let other : (x.1 == c) ≡ false = ne_eqb x.1 c (λ e. both_ways (p x.1) (ap p e ∙ fails) parts.0) in
    rw other (find-absent p c xs parts.1 fails)

far : (c : ℕ) → 0x100 ≤ c → (c < 0x390) ⊎ (0x3B0 ≤ c) → (c ≡ 0x20AC → ⊥) → is_near c ≡ false
unfolding is_near
far c high (inl below) other = rw (le-ltb c 0x100 high, lt-leb 0x390 c below, ne_eqb c 0x20AC other)
far c high (inr above) other = rw (le-ltb c 0x100 high, le-leb 0x390 c (omega arith), le-ltb c 0x3B0 above, ne_eqb c 0x20AC other)

-- any other character becomes `?`
pub unknown_code : (c : ℕ) → 0x100 ≤ c → (c < 0x390) ⊎ (0x3B0 ≤ c) → (c ≡ 0x20AC → ⊥) → question_mark ∷ [] ≡ septets_of c
unfolding septets_of
unknown_code c high apart other =
    let esc : (c == 27) ≡ false = ne_eqb c 27 (λ e. omega arith) in
    let fails = far c high apart other in
    let plain = position-absent is_near c default_alphabet default_is_near fails in
    let behind = find-absent is_near c extension extension_is_near fails in
    rw (esc, plain, behind) refl

-- the septets that the extension has
is_extended : ℕ → Bool
is_extended s = (s == 0x0A) || ((s == 0x14) || ((s == 0x28) || ((s == 0x29) || ((s == 0x2F) || ((s == 0x3C) || ((s == 0x3D) || ((s == 0x3E) || ((s == 0x40) || (s == 0x65)))))))))

extension_is_extended : list_all (λ entry. is_extended entry.0) extension ≡ true
unfolding extension is_extended
extension_is_extended = refl

find-absent_septet : (p : ℕ → Bool) (s : ℕ) (xs : List (ℕ × ℕ)) → list_all (λ entry. p entry.0) xs ≡ true → p s ≡ false → find (λ entry. entry.0 == s) xs ≡ None
find-absent_septet p s [] all fails = refl
find-absent_septet p s (x ∷ xs) all fails =
    let parts = and_parts (p x.0) (list_all (λ entry. p entry.0) xs) all in
    let other : (x.0 == s) ≡ false = ne_eqb x.0 s (λ e. both_ways (p x.0) (ap p e ∙ fails) parts.0) in
    rw other (find-absent_septet p s xs parts.1 fails)

-- any other septet behind the escape is its own character
pub extended_plain : (s : ℕ) → (s ≡ 0x0A → ⊥) → (s ≡ 0x14 → ⊥) → (s ≡ 0x28 → ⊥) → (s ≡ 0x29 → ⊥) → (s ≡ 0x2F → ⊥)
    → (s ≡ 0x3C → ⊥) → (s ≡ 0x3D → ⊥) → (s ≡ 0x3E → ⊥) → (s ≡ 0x40 → ⊥) → (s ≡ 0x65 → ⊥) → plain_character s ≡ extended_character s
unfolding extended_character is_extended
extended_plain s a b c d e f g h i j =
    let fails : is_extended s ≡ false = rw (ne_eqb s 0x0A a, ne_eqb s 0x14 b, ne_eqb s 0x28 c, ne_eqb s 0x29 d, ne_eqb s 0x2F e, ne_eqb s 0x3C f, ne_eqb s 0x3D g, ne_eqb s 0x3E h, ne_eqb s 0x40 i, ne_eqb s 0x65 j) in
    rw (find-absent_septet is_extended s extension extension_is_extended fails)

-- each septet of a text is below 128
some_below : (n m : ℕ) → IfSome (cond (nat_lt n m) (Some n) None) (λ s. s < m)
some_below n m = cond_both (nat_lt n m) (Some n) None (λ o. IfSome o (λ s. s < m)) (λ e. ltb-true n m e) (λ _. tt)

length-default_alphabet : length default_alphabet ≡ 128
unfolding default_alphabet
length-default_alphabet = refl

plain_is_small : (c : ℕ) → IfSome (position (λ x. x == c) default_alphabet) (λ s. s < 128)
plain_is_small c =
    let P : ℕ → Type 0 = λ m. IfSome (position (λ x. x == c) default_alphabet) (λ s. s < m) in
    subst P length-default_alphabet (some_below (position_or_len (λ x. x == c) default_alphabet) (length default_alphabet))

found_is_small : (c : ℕ) (xs : List (ℕ × ℕ)) → list_all (λ entry. nat_lt entry.0 128) xs ≡ true
    → IfSome (option_map (λ entry. entry.0) (find (λ entry. entry.1 == c) xs)) (λ s. s < 128)
found_is_small c [] all = tt
found_is_small c (x ∷ xs) all =
    let parts = and_parts (nat_lt x.0 128) (list_all (λ entry. nat_lt entry.0 128) xs) all in
    cond_both (x.1 == c) (Some x) (find (λ entry. entry.1 == c) xs) (λ o. IfSome (option_map (λ entry. entry.0) o) (λ s. s < 128))
    (λ _. ltb-true x.0 128 parts.0) (λ _. found_is_small c xs parts.1)

extension_is_small : list_all (λ entry. nat_lt entry.0 128) extension ≡ true
unfolding extension
extension_is_small = refl

abbrev IsSmall : ℕ → Type 0
IsSmall s = s < 128

septets_at_small : (plain behind : Option ℕ) → IfSome plain IsSmall → IfSome behind IsSmall → All IsSmall (septets_at plain behind)
septets_at_small (Some s) behind h k = All-cons IsSmall s [] h (All-nil IsSmall)
septets_at_small None (Some s) h k = All-cons IsSmall 27 (s ∷ []) (omega arith) (All-cons IsSmall s [] k (All-nil IsSmall))
septets_at_small None None h k = All-cons IsSmall 63 [] (omega arith) (All-nil IsSmall)

pub septets_of-small : (c : ℕ) → All (λ s. s < 128) (septets_of c)
unfolding septets_of
septets_of-small c =
    let behind = option_map (λ entry. entry.0) (find (λ entry. entry.1 == c) extension) in
    let plain = position (λ x. x == c) default_alphabet in
    cond_both (c == escape) (question_mark ∷ []) (septets_at plain behind) (All IsSmall)
    (λ _. All-cons IsSmall 63 [] (omega arith) (All-nil IsSmall))
    (λ _. septets_at_small plain behind (plain_is_small c) (found_is_small c extension extension_is_small))

pub septets_small : (cs : List ℕ) → All (λ s. s < 128) (flat_map septets_of cs)
septets_small [] = All-nil IsSmall
septets_small (c ∷ cs) = All-append IsSmall (septets_of c) (flat_map septets_of cs) (septets_of-small c) (septets_small cs)

-- the septets are read as this character alone
read_back : List ℕ → ℕ → Bool
read_back [] c = false
read_back (s ∷ []) c = not (s == escape) && (plain_character s == c)
read_back (e ∷ s ∷ []) c = (e == escape) && (extended_character s == c)
read_back (e ∷ s ∷ t ∷ rest) c = false

-- no character stands twice in the table, so each comes back from its septets
characters_come_back : list_all (λ c. read_back (septets_of c) c) characters ≡ true
unfolding septets_of default_alphabet extension characters plain_character extended_character read_back
characters_come_back = refl

text_of_read : (xs : List ℕ) (c : ℕ) (rest : List ℕ) → read_back xs c ≡ true → text_of (xs ++ rest) ≡ c ∷ text_of rest
unfolding text_of read_back
text_of_read [] c rest h = absurd (false≢true h)
text_of_read (s ∷ []) c [] h =
    let parts = and_parts (not (s == escape)) (plain_character s == c) h in
    rw (not-true (s == escape) parts.0) (ap (λ x. x ∷ []) (eqb-true (plain_character s) c parts.1))
text_of_read (s ∷ []) c (t ∷ rest) h =
    let parts = and_parts (not (s == escape)) (plain_character s == c) h in
    rw (not-true (s == escape) parts.0) (ap (λ x. x ∷ text_of (t ∷ rest)) (eqb-true (plain_character s) c parts.1))
text_of_read (e ∷ s ∷ []) c rest h =
    let parts = and_parts (e == escape) (extended_character s == c) h in
    rw parts.0 (ap (λ x. x ∷ text_of rest) (eqb-true (extended_character s) c parts.1))
text_of_read (e ∷ s ∷ t ∷ more) c rest h = absurd (false≢true h)

comes_back : (c : ℕ) → Contains characters c → read_back (septets_of c) c ≡ true
comes_back c (k, within, here) =
    let P : ℕ → Type 0 = λ x. read_back (septets_of x) x ≡ true in
    subst P here (and_at (list_all (λ x. read_back (septets_of x) x)) (λ x. read_back (septets_of x) x) refl (λ _ _. refl) characters k c within characters_come_back)

text_of-nil : text_of [] ≡ []
unfolding text_of
text_of-nil = refl

-- a text of the alphabet comes back
pub text_of-septets : (cs : List ℕ) → All (Contains characters) cs → text_of (flat_map septets_of cs) ≡ cs
text_of-septets [] all = text_of-nil
text_of-septets (c ∷ cs) all =
    text_of_read (septets_of c) c (flat_map septets_of cs) (comes_back c (All-head (Contains characters) c cs all))
    ∙ ap (λ l. c ∷ l) (text_of-septets cs (All-tail (Contains characters) c cs all))

-- the characters of septets, where an escape may stand before them
pub text_behind : Bool → List ℕ → List ℕ
text_behind false xs = text_of xs
text_behind true [] = space ∷ []
text_behind true (s ∷ xs) = extended_character s ∷ text_of xs

pub text_behind-start : (xs : List ℕ) → text_behind false xs ≡ text_of xs
unfolding text_behind
text_behind-start xs = refl

pub text_behind-end : (behind : Bool) → text_behind behind [] ≡ cond behind (space ∷ []) []
unfolding text_behind
text_behind-end true = refl
text_behind-end false = text_of-nil

plain_step : (s : ℕ) (xs : List ℕ) (b : Bool) → (s == escape) ≡ b
    → text_of (s ∷ xs) ≡ (cond (s == escape) [] (plain_character s ∷ [])) ++ text_behind (s == escape) xs
unfolding text_behind text_of
plain_step s [] true e = rw e
plain_step s [] false e = rw e
plain_step s (t ∷ xs) true e = rw e
plain_step s (t ∷ xs) false e = rw e

pub text_behind-step : (behind : Bool) (s : ℕ) (xs : List ℕ) → text_behind behind (s ∷ xs) ≡ shown behind s ++ text_behind (not behind && (s == escape)) xs
unfolding text_behind
text_behind-step true s xs = refl
text_behind-step false s xs = plain_step s xs (s == escape) refl

-- each septet but the escape is the one septet of its character
septets_come_back : all_below (λ s. (s == escape) || same_list (septets_of (plain_character s)) (s ∷ [])) 128 ≡ true
unfolding septets_of default_alphabet extension plain_character same_list
septets_come_back = refl

septets_of-plain_character : (s : ℕ) → s < 128 → (s ≡ escape → ⊥) → septets_of (plain_character s) ≡ s ∷ []
septets_of-plain_character s small other =
    let here = all_below_at (λ x. (x == escape) || same_list (septets_of (plain_character x)) (x ∷ [])) 128 s septets_come_back small in
    same_list-true _ _ (rw (ne_eqb s escape other) at here)

text_of-plain : (s : ℕ) (xs : List ℕ) → (s ≡ escape → ⊥) → text_of (s ∷ xs) ≡ plain_character s ∷ text_of xs
unfolding text_of
text_of-plain s [] other = rw (ne_eqb s escape other)
text_of-plain s (t ∷ xs) other = rw (ne_eqb s escape other)

-- septets without an escape come back
pub septets-text_of : (xs : List ℕ) → All (λ s. s < 128) xs → All (λ s. s ≢ escape) xs → flat_map septets_of (text_of xs) ≡ xs
septets-text_of [] small plain = ap (flat_map septets_of) text_of-nil
septets-text_of (s ∷ xs) small plain =
    let other = All-head (λ x. x ≢ escape) s xs plain in
    ap (flat_map septets_of) (text_of-plain s xs other)
    ∙ ap (λ l. l ++ flat_map septets_of (text_of xs)) (septets_of-plain_character s (All-head IsSmall s xs small) other)
    ∙ ap (λ l. s ∷ l) (septets-text_of xs (All-tail IsSmall s xs small) (All-tail (λ x. x ≢ escape) s xs plain))
