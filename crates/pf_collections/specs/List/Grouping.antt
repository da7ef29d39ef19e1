-- A list in groups: full ones, and a last one after them.
use Rattle.std.specs.Prelude.{◌≡◌, ℕ, ◌^◌, ◌≤◌, List, ◌++◌, length}
use Rattle.std.specs.List.{All, flat_map}

module _ {X : Type 0} where
  -- the items of the full groups, and after them those of the last one
  abbrev pub grouped : List (List X) → List X → List X
  grouped full last = flat_map (λ group. group) full ++ last

  -- each full group has 128 items, the last one at most as many
  pub record AreGroups (full : List (List X)) (last : List X) : Type 0 where
    pub whole : All (λ group. length group ≡ 128) full
    pub part : length last ≤ 128
    pub few : length full ≤ 2 ^ 54

  -- groups of which the list is the first `count` items
  pub record HoldFirst (full : List (List X)) (last : List X) (count : ℕ) : Type 0 where
    pub groups : AreGroups full last
    pub within : count ≤ length (grouped full last)
