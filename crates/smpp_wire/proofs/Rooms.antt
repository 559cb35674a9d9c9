-- What the tests of room mean.
use Rattle.std.proofs.Common.{◌≡◌, ℕ, suc, ◌+◌, ◌-◌, ◌<◌, ◌≤◌, max, true, leb, eqb, arith, inl, inr, ◌⊎◌}
use Rattle.std.specs.Prelude.{◌&&◌}
use Rattle.std.proofs.lemmas.Bool.{leb-true, le-leb, eqb-true, eq-eqb, and_parts, and_from, or_cases, or_left, or_right}
use Rattle.smpp_wire.specs.declared.room.Room.{Room}
use Rattle.smpp_wire.specs.declared.room.Room.TheVariants.{From, Between, Tlvs}
use Rattle.smpp_wire.specs.declared.text.Sizes.{Sizes}
use Rattle.smpp_wire.specs.Room.{fits, is_size, may_end, leaves_room, may_go_on}

-- so many octets can be filled
abbrev pub Fits : Room → ℕ → Type 0
Fits (From least) left = least ≤ left
Fits (Between least most) left = (least ≤ left) × (left ≤ most)
Fits Tlvs left = (left ≡ 0) ⊎ (4 ≤ left)

pub fits_means : (room : Room) (left : ℕ) → fits room left ≡ true → Fits room left
fits_means (From least) left e = leb-true least left e
fits_means (Between least most) left e =
    let t = and_parts (leb least left) (leb left most) e in
    (leb-true least left t.0, leb-true left most t.1)
fits_means Tlvs left e = elim (or_cases (eqb left 0) (leb 4 left) e) [ inl none ↦ inl (eqb-true left 0 none) | inr some ↦ inr (leb-true 4 left some) ]

pub fits_tests : (room : Room) (left : ℕ) → Fits room left → fits room left ≡ true
fits_tests (From least) left f = le-leb least left f
fits_tests (Between least most) left f = and_from (leb least left) (leb left most) (le-leb least left f.0) (le-leb left most f.1)
fits_tests Tlvs left f = elim f [ inl none ↦ or_left (eqb left 0) (leb 4 left) (eq-eqb left 0 none) | inr some ↦ or_right (eqb left 0) (leb 4 left) (le-leb 4 left some) ]

-- a text may have so many octets
abbrev pub IsSize : Sizes → ℕ → Type 0
IsSize sizes n = (n ≡ 1) ⊎ ((sizes.least ≤ n) × (n ≤ sizes.most))

pub size_means : (sizes : Sizes) (n : ℕ) → is_size sizes n ≡ true → IsSize sizes n
size_means sizes n e =
    elim (or_cases (eqb n 1) (leb sizes.least n && leb n sizes.most) e) [
      | inl one ↦ inl (eqb-true n 1 one)
      | inr more ↦ let t = and_parts (leb sizes.least n) (leb n sizes.most) more in inr (leb-true sizes.least n t.0, leb-true n sizes.most t.1)
    ]

pub size_tests : (sizes : Sizes) (n : ℕ) → IsSize sizes n → is_size sizes n ≡ true
size_tests sizes n s =
    elim s [
      | inl one ↦ or_left (eqb n 1) (leb sizes.least n && leb n sizes.most) (eq-eqb n 1 one)
      | inr more ↦ or_right (eqb n 1) (leb sizes.least n && leb n sizes.most) (and_from (leb sizes.least n) (leb n sizes.most) (le-leb sizes.least n more.0) (le-leb n sizes.most more.1))
    ]

-- a text may end behind so many octets
abbrev pub Ends : Sizes → Room → ℕ → ℕ → Type 0
Ends sizes room left before = IsSize sizes (suc before) × (suc before ≤ left) × Fits room (left - suc before)

pub end_means : (sizes : Sizes) (room : Room) (left before : ℕ) → may_end sizes room left before ≡ true → Ends sizes room left before
end_means sizes room left before e =
    let t = and_parts (is_size sizes (suc before)) (leb (suc before) left && fits room (left - suc before)) e in
    let u = and_parts (leb (suc before) left) (fits room (left - suc before)) t.1 in
    (size_means sizes (suc before) t.0, leb-true (suc before) left u.0, fits_means room (left - suc before) u.1)

pub end_tests : (sizes : Sizes) (room : Room) (left before : ℕ) → Ends sizes room left before → may_end sizes room left before ≡ true
end_tests sizes room left before t =
    and_from (is_size sizes (suc before)) (leb (suc before) left && fits room (left - suc before)) (size_tests sizes (suc before) t.0)
    (and_from (leb (suc before) left) (fits room (left - suc before)) (le-leb (suc before) left t.1) (fits_tests room (left - suc before) t.2))

-- a text that ends later may go on
goes_leaves : (sizes : Sizes) (room : Room) (left size later : ℕ) → size ≤ later → later ≤ sizes.most → later ≤ left → Fits room (left - later) → leaves_room sizes room left size ≡ true
goes_leaves sizes (From least) left size later le most within f = le-leb (size + least) left (omega (arith, f))
goes_leaves sizes (Between least most') left size later le most within f =
    and_from (leb (size + least) left) (leb left (sizes.most + most')) (le-leb (size + least) left (omega (arith, f.0))) (le-leb left (sizes.most + most') (omega (arith, f.1)))
goes_leaves sizes Tlvs left size later le most within f =
    elim f [
      | inl none ↦ or_left (leb size left && leb left sizes.most) (leb (size + 4) left) (and_from (leb size left) (leb left sizes.most) (le-leb size left (omega arith)) (le-leb left sizes.most (omega (arith, none))))
      | inr some ↦ or_right (leb size left && leb left sizes.most) (leb (size + 4) left) (le-leb (size + 4) left (omega (arith, some)))
    ]

pub ends_later : (sizes : Sizes) (room : Room) (left before n : ℕ) → Ends sizes room left (suc before + n) → may_go_on sizes room left before ≡ true
ends_later sizes room left before n e =
    elim e.0 [
      | inl one ↦ absurd (omega (arith, one))
      | inr more ↦
          and_from (leb (before + 2) sizes.most) (leaves_room sizes room left (max sizes.least (before + 2))) (le-leb (before + 2) sizes.most (omega (arith, more.1)))
          (goes_leaves sizes room left (max sizes.least (before + 2)) (suc (suc before + n)) (omega (arith, more.0)) more.1 e.1 e.2)
    ]

-- sizes and rooms that are not empty
abbrev pub IsRoom : Room → Type 0
IsRoom (From least) = Unit {0}
IsRoom (Between least most) = least ≤ most
IsRoom Tlvs = Unit {0}

-- a text that may go on may end later
later_size : (sizes : Sizes) (room : Room) (left size : ℕ) → IsRoom room → size ≤ sizes.most → leaves_room sizes room left size ≡ true → (later : ℕ) × (size ≤ later) × (later ≤ sizes.most) × (later ≤ left) × Fits room (left - later)
later_size sizes (From least) left size is le e = let t = leb-true (size + least) left e in (size, omega arith, le, omega (arith, t), omega (arith, t))
later_size sizes (Between least most) left size is le e =
    let t = and_parts (leb (size + least) left) (leb left (sizes.most + most)) e in
    let low = leb-true (size + least) left t.0 in
    let high = leb-true left (sizes.most + most) t.1 in
    (max size (left - most), omega arith, omega (arith, le, high), omega (arith, low, is), (omega (arith, low, is), omega (arith, low, is)))
later_size sizes Tlvs left size is le e =
    elim (or_cases (leb size left && leb left sizes.most) (leb (size + 4) left) e) [
      | inl whole ↦
          let t = and_parts (leb size left) (leb left sizes.most) whole in
          (left, leb-true size left t.0, leb-true left sizes.most t.1, omega arith, inl (omega arith))
      | inr some ↦ let t = leb-true (size + 4) left some in (size, omega arith, le, omega (arith, t), inr (omega (arith, t)))
    ]

pub goes_on : (sizes : Sizes) (room : Room) (left before : ℕ) → sizes.least ≤ sizes.most → IsRoom room → may_go_on sizes room left before ≡ true → (n : ℕ) × Ends sizes room left (suc before + n)
goes_on sizes room left before some is e =
    let t = and_parts (leb (before + 2) sizes.most) (leaves_room sizes room left (max sizes.least (before + 2))) e in
    let next = leb-true (before + 2) sizes.most t.0 in
    let l = later_size sizes room left (max sizes.least (before + 2)) is (omega (arith, some, next)) t.1 in
    let same : l.0 ≡ suc (suc before + (l.0 - (before + 2))) = omega (arith, l.1) in
    (l.0 - (before + 2), (inr (omega (arith, l.1), omega (arith, l.1, l.2)), omega (arith, l.1, l.3), rest l.0 (suc (suc before + (l.0 - (before + 2)))) same l.4))
  where
    rest : (n m : ℕ) → n ≡ m → Fits room (left - n) → Fits room (left - m)
    rest n m e f = rw (← e) f

-- a text ends before the last of its sizes
pub ends_before : (sizes : Sizes) (room : Room) (left before : ℕ) → 1 ≤ sizes.most → Ends sizes room left before → before < sizes.most
ends_before sizes room left before some e = elim e.0 [ inl one ↦ omega (arith, one) | inr more ↦ omega (arith, more.1) ]
