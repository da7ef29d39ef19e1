-- What a table ends as, where a value of it was lent.
use Rattle.std.specs.Prelude.{ℕ, Option}
use Rattle.std.specs.Borrow.{LendsIf, Fml, RattleType, MutBor}
use Rattle.pf_collections.specs.Table.Grown.{Grown, with_value}
use Rattle.pf_collections.specs.contracts.table.table.Table.{the_row}

-- the table has the value that was written last where it lent the number's, and is as before where it lent none
abbrev pub lends_value : (T : RattleType) → MutBor (Grown T.Denot) → ℕ → Option (MutBor T.Denot) → Fml
lends_value T table task lent = LendsIf (the_row T) T table lent (with_value table.now task) table.now
