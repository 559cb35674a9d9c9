-- A field of the settings is what stands for its variable, or lies in the range of its row.
use Rattle.std.proofs.Common.{◌≡◌, refl, sym, subst, ℕ, ◌≤◌, true, min, List, [], length, Option, Some, None, IfSome, inl, inr, arith}
use Rattle.std.specs.Prelude.{◌⊎◌, IsUtf8, IsSome, option_map}
use Rattle.std.specs.List.{list_any}
use Rattle.std.proofs.lemmas.Bool.{and_cases, not-false}
use Rattle.std.proofs.lemmas.Str.{IsUtf8-nil}
use Rattle.config_values.specs.declared.grammar.Grammar.TheVariants as grammars
use Rattle.config_values.specs.Forms.{IsWithin, AreEntries, IsSender}
use Rattle.config_values.specs.Values.{entries}
use Rattle.config_values.proofs.Forms as forms
use Rattle.config_groups.specs.declared.group.Set.{Set}
use Rattle.config_groups.specs.declared.role.Role.{Role}
use Rattle.config_groups.specs.declared.table.Range.{Range}
use Rattle.config_groups.specs.declared.table.Range.TheVariants.{Of, Text}
use Rattle.config_groups.specs.Roles.{has_name, first}
use Rattle.config_groups.specs.Table.{Always, Without, is_in}
use Rattle.config_groups.specs.Fields.{value, value_by, octets, optional, number, number_by, small, port, list, sender}
use Rattle.config_groups.specs.Faults.{range_of, group_fault}
use Rattle.config_groups.specs.Missing.{lacking}
use Rattle.config_groups.proofs.Tried.{tried, need_of, needed, first_of_name}

-- the range of a number
abbrev Numbers : (least most : ℕ) → Range
Numbers least most = Of (grammars.Number least most)

at_most : (least most bound number : ℕ) → IsWithin least most number → most ≤ bound → IsWithin least most (min number bound)
at_most least most bound number is small = (omega arith, omega arith)

module _ (range : Range) (P : List ℕ → Type 0) (tells : (v : List ℕ) → is_in range v ≡ true → P v) where
  by_first : (unset : List ℕ) (found : Option Set) → P unset → IfSome found (λ set. is_in range set.value ≡ true) → P (value_by unset found)
  by_first unset None default held = default
  by_first unset (Some set) default held = tells set.value held

  by_found : (unset : List ℕ) (found : Option Set) (set : Set) → found ≡ Some set → IfSome found (λ set. is_in range set.value ≡ true) → P (value_by unset found)
  by_found unset found set is held =
      subst (λ f. IfSome f (λ set. is_in range set.value ≡ true) → P (value_by unset f)) (sym is) (λ h. tells set.value h) held

  by_option : (found : Option Set) → IfSome found (λ set. is_in range set.value ≡ true) → IfSome (option_map (λ set. set.value) found) P
  by_option None held = tt
  by_option (Some set) held = tells set.value held

number_first : (least most unset : ℕ) (found : Option Set) → IsWithin least most unset → IfSome found (λ set. is_in (Numbers least most) set.value ≡ true) →
    IsWithin least most (number_by unset found)
number_first least most unset None default held = default
number_first least most unset (Some set) default held = forms.number least most set.value held

number_found : (least most unset : ℕ) (found : Option Set) (set : Set) → found ≡ Some set → IfSome found (λ set. is_in (Numbers least most) set.value ≡ true) →
    IsWithin least most (number_by unset found)
number_found least most unset found set is held =
    subst (λ f. IfSome f (λ set. is_in (Numbers least most) set.value ≡ true) → IsWithin least most (number_by unset f)) (sym is) (λ h. forms.number least most set.value h) held

module _ (role : Role) (group : List Set) (right : group_fault role group ≡ None) where
  -- what a value is, where what stands for it is that too
  pub value_or : (name unset : List ℕ) (range : Range) (P : List ℕ → Type 0) → range_of role name ≡ Some range → ((v : List ℕ) → is_in range v ≡ true → P v) →
      P unset → P (value name unset group)
  unfolding value
  value_or name unset range P row tells default = by_first range P tells unset (first name group) default (tried role group name range row right)

  pub optional_of : (name : List ℕ) (range : Range) (P : List ℕ → Type 0) → range_of role name ≡ Some range → ((v : List ℕ) → is_in range v ≡ true → P v) →
      IfSome (optional name group) P
  unfolding optional
  optional_of name range P row tells = by_option range P tells (first name group) (tried role group name range row right)

  pub number_or : (name : List ℕ) (unset least most : ℕ) → range_of role name ≡ Some (Numbers least most) → IsWithin least most unset →
      IsWithin least most (number name unset group)
  unfolding number
  number_or name unset least most row default = number_first least most unset (first name group) default (tried role group name (Numbers least most) row right)

  pub small_or : (name : List ℕ) (unset least most : ℕ) → range_of role name ≡ Some (Numbers least most) → IsWithin least most unset → most ≤ 4294967295 →
      IsWithin least most (small name unset group)
  unfolding small
  small_or name unset least most row default low = at_most least most 4294967295 (number name unset group) (number_or name unset least most row default) low

  pub port_or : (name : List ℕ) (unset : ℕ) → range_of role name ≡ Some (Numbers 1 65535) → IsWithin 1 65535 unset → IsWithin 1 65535 (port name unset group)
  unfolding port
  port_or name unset row default = at_most 1 65535 65535 (number name unset group) (number_or name unset 1 65535 row default) (omega arith)

  -- so many octets, and so many that stand for them
  pub octets_or : (name unset : List ℕ) (least most : ℕ) → range_of role name ≡ Some (Of (grammars.Octets least most)) → IsWithin least most (length unset) →
      IsWithin least most (length (value name unset group))
  octets_or name unset least most row default =
      value_or name unset (Of (grammars.Octets least most)) (λ v. IsWithin least most (length v)) row (λ v is. forms.within least most (length v) is) default

  pub list_of : (name : List ℕ) → range_of role name ≡ Some (Of grammars.List) → AreEntries (list name group)
  unfolding list
  list_of name row = value_or name [] (Of grammars.List) (λ v. AreEntries (entries v)) row forms.list (forms.list [] refl)

  pub text_of : (name : List ℕ) → range_of role name ≡ Some Text → IsUtf8 (octets name group)
  text_of name row = value_or name [] Text IsUtf8 row (λ v is. (forms.utf8 18446744073709551615 v is).0) IsUtf8-nil

  module _ (whole : lacking role group ≡ None) where
    stands : (name : List ℕ) → need_of role name ≡ Always → (set : Set) × (first name group ≡ Some set)
    stands name need = first_of_name name group (not-false _ (needed role group name Always need whole))

    -- what the value of a variable is that has to stand
    pub value_always : (name : List ℕ) (range : Range) (P : List ℕ → Type 0) → range_of role name ≡ Some range → need_of role name ≡ Always →
        ((v : List ℕ) → is_in range v ≡ true → P v) → P (octets name group)
    unfolding value
    value_always name range P row need tells =
        let set = stands name need in
        by_found range P tells [] (first name group) set.0 set.1 (tried role group name range row right)

    pub octets_always : (name : List ℕ) (least most : ℕ) → range_of role name ≡ Some (Of (grammars.Octets least most)) → need_of role name ≡ Always →
        IsWithin least most (length (octets name group))
    octets_always name least most row need =
        value_always name (Of (grammars.Octets least most)) (λ v. IsWithin least most (length v)) row need (λ v is. forms.within least most (length v) is)

    pub port_always : (name : List ℕ) → range_of role name ≡ Some (Numbers 1 65535) → need_of role name ≡ Always → IsWithin 1 65535 (port name 0 group)
    unfolding port number
    port_always name row need =
        let set = stands name need in
        at_most 1 65535 65535 (number name 0 group)
        (number_found 1 65535 0 (first name group) set.0 set.1 (tried role group name (Numbers 1 65535) row right)) (omega arith)

-- the first of two names stands, or the second does
there : (name : List ℕ) (group : List Set) → list_any (has_name name) group ≡ true → IsSome (optional name group)
unfolding optional
there name group stands = let set = first_of_name name group stands in rw set.1 refl

pub one_of_two : (role : Role) (group : List Set) (name other : List ℕ) → need_of role name ≡ Without other → lacking role group ≡ None →
    IsSome (optional name group) ⊎ IsSome (optional other group)
one_of_two role group name other need whole =
    elim (and_cases _ _ (needed role group name (Without other) need whole)) [
      | inl stands ↦ inl (there name group (not-false _ stands))
      | inr stands ↦ inr (there other group (not-false _ stands))
    ]

pub sender_of_group : (name : List ℕ) (group : List Set) → IfSome (sender name group) IsSender
unfolding sender
sender_of_group name group = forms.sender (octets name group)
