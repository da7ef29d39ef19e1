-- How the rows of a block lie in memory: their places one after another, and where each row ends.
use Rattle.std.specs.Prelude.{◌≡◌, ℕ, ◌+◌, ◌≤◌, Option, List, [], ◌∷◌, length, slice_range}
use Rattle.std.specs.List.{flat_map}
use Rattle.pf_order.specs.declared.pick.Pick.{Pick}

-- these rows, one after another
abbrev pub all_rows_of : {X : Type 0} → List (List X) → List X
all_rows_of rows = flat_map (λ row. row) rows

-- where each of these rows ends, where the first begins at `from`
abbrev pub ends_of : {X : Type 0} → ℕ → List (List X) → List ℕ
ends_of from [] = []
ends_of from (row ∷ rows) = (from + length row) ∷ ends_of (from + length row) rows

-- the rows of these places that end there, where the first begins at `from`
abbrev pub rows_between : {X : Type 0} → ℕ → List ℕ → List X → List (List X)
rows_between from [] places = []
rows_between from (end ∷ ends) places = slice_range places from end ∷ rows_between end ends places

-- these places, cut at these ends, are the rows
pub record AreCutAt {X : Type 0} (rows : List (List X)) (ends : List ℕ) (places : List X) : Type 0 where
  pub ends_are : ends ≡ ends_of 0 rows
  pub places_are : places ≡ all_rows_of rows

-- the rows of a block, and for how many places and rows it has room
pub record Held : Type 0 where
  pub rows : List (List (Option Pick))
  pub places_room : ℕ
  pub rows_room : ℕ

-- the block has at least the room that it had
pub record KeepsRoom (old new : Held) : Type 0 where
  pub for_places : old.places_room ≤ new.places_room
  pub for_rows : old.rows_room ≤ new.rows_room

-- the block has room for these rows
pub record HasRoomFor (block : Held) (rows : List (List (Option Pick))) : Type 0 where
  pub for_places : length (all_rows_of rows) ≤ block.places_room
  pub for_rows : length rows ≤ block.rows_room
