-- The places of a table, of which some are empty.
use Rattle.std.specs.Prelude.{◌≡◌, ℕ, ◌+◌, ◌<◌, ◌≤◌, ⊤, List, [], ◌∷◌, length, Option, None, IsSome, option_map, All}
use Rattle.std.specs.List.{AllWithin, HoldsAt, filter_map}
use Rattle.numbered_table.specs.declared.row.Row.{Row}

module _ {T : Type 0} where
  -- the pair that stands at a place
  abbrev pub pair_of : Row T → Option (ℕ × T)
  pair_of row = option_map (λ value. (row.number, value)) row.value

  -- the pairs that stand at places
  abbrev pub pairs_of : List (Row T) → List (ℕ × T)
  pairs_of rows = filter_map pair_of rows

  -- the number of each place, empty or not, is below those behind it
  abbrev pub Ascend : List (Row T) → Type 0
  Ascend [] = ⊤
  Ascend (row ∷ rows) = All (λ later. row.number < later.number) rows × Ascend rows

  -- no value stands at the places from one up to another
  abbrev pub AreEmpty : List (Row T) → ℕ → ℕ → Type 0
  AreEmpty rows from end = AllWithin (λ row. row.value ≡ None) rows from end

  -- a value stands at a place
  abbrev pub IsLive : List (Row T) → (place : ℕ) → Type 0
  IsLive rows place = HoldsAt (λ row. IsSome row.value) rows place

  -- Places in the order of their numbers: so many in front are empty, and so many in all.
  pub record AreCounted (rows : List (Row T)) (front empties : ℕ) : Type 0 where
    pub ascend : Ascend rows
    pub within : front ≤ length rows
    pub leading : AreEmpty rows 0 front
    pub counted : empties + length (pairs_of rows) ≡ length rows

  -- The places of a table: they are counted, the first behind the empty ones in front is live, and at most half of them are empty.
  pub record AreKept (rows : List (Row T)) (first_live empties : ℕ) : Type 0 where
    pub places : AreCounted rows first_live empties
    pub first : first_live < length rows → IsLive rows first_live
    pub half : empties + empties ≤ length rows
