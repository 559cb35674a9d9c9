-- What becomes of a table of which a value is lent to be changed.
use Rattle.std.specs.Prelude.{ℕ, Option}
use Rattle.std.specs.Borrow.{Lends, LendsIf, Fml, RattleType, MutBor}
use Rattle.numbered_table.specs.Pairs.{Numbered, with_value}
use Rattle.numbered_table.specs.contracts.table.Table.{the_row}

-- the table with this value under a number that is there
abbrev pub put_under : {T : Type 0} → Numbered T → ℕ → T → Numbered T
put_under table number value = record table { pairs = with_value number value table.pairs }

module _ (T : RattleType) (table : MutBor (Numbered T.Denot)) (number : ℕ) where
  -- once the loan ends, the last value that was written stands under the number
  abbrev pub lends_value : MutBor T.Denot → Fml
  lends_value lent = Lends (the_row T) T table lent (put_under table.now number)

  -- the same where a value is lent, and where none is, the table stays
  abbrev pub lends_get : Option (MutBor T.Denot) → Fml
  lends_get lent = LendsIf (the_row T) T table lent (put_under table.now number) table.now
