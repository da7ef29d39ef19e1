-- The rows of a run of slots. A slot's turn is how many processors are in use in it, and its picks.
use Rattle.std.specs.Prelude.{ℕ, ◌-◌, Option, List, [], ◌∷◌, length, take}
use Rattle.pf_order.specs.declared.pick.Pick.{Pick}
use Rattle.pf_place.specs.Occupancy.{row_of, idle_row}

-- the rows of these turns, one after another, where `before` is the row before them
abbrev pub rows_behind : ℕ → List (Option Pick) → List (ℕ × List Pick) → List (List (Option Pick))
rows_behind m before [] = []
rows_behind m before (turn ∷ turns) =
    row_of m turn.0 before turn.1 ∷ rows_behind m (row_of m turn.0 before turn.1) turns

-- the rows of m places of the turns from slot 0 on: before it all are idle
abbrev pub rows_of : ℕ → List (ℕ × List Pick) → List (List (Option Pick))
rows_of m turns = rows_behind m (idle_row m) turns

-- the last of these rows, or `before` where there are none
abbrev pub last_row : List (Option Pick) → List (List (Option Pick)) → List (Option Pick)
last_row before [] = before
last_row before (row ∷ rows) = last_row row rows

-- these rows without the last
abbrev pub but_last : List (List (Option Pick)) → List (List (Option Pick))
but_last rows = take (length rows - 1) rows

-- the row before the last one, or the idle row of as many places where the last is the only one
abbrev pub row_before : List (List (Option Pick)) → List (Option Pick)
row_before rows = last_row (idle_row (length (last_row [] rows))) (but_last rows)
