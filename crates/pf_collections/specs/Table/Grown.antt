-- A table by task number: a value for each number, of which it keeps those that it was grown to.
use Rattle.std.specs.Prelude.{ℕ, ◌-◌, List, ◌++◌, length, replicate, slice_index_or, slice_set}

-- the values of the numbers from 0 on, and the value of all the others
abbrev pub Grown : Type 0 → Type 0
Grown X = List X × X

-- the number's value
abbrev pub value_of : {X : Type 0} → Grown X → ℕ → X
value_of table task = slice_index_or table.0 task table.1

-- numbers below this can be set
abbrev pub size_of : {X : Type 0} → Grown X → ℕ
size_of table = length table.0

-- the table with this value of the number
abbrev pub with_value : {X : Type 0} → Grown X → ℕ → X → Grown X
with_value table task x = (slice_set table.0 task x, table.1)

-- the table, grown so that the numbers below n can be set
abbrev pub grown_to : {X : Type 0} → ℕ → Grown X → Grown X
grown_to n table = (table.0 ++ replicate (n - length table.0) table.1, table.1)
