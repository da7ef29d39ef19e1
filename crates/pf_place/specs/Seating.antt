-- How free places are taken.
use Rattle.std.specs.Prelude.{Option, Some, None, List, [], ◌∷◌}

-- these places once the free ones were taken by the rest, in order
abbrev pub seats_filled_with : {X : Type 0} → List (Option X) → List X → List (Option X)
seats_filled_with [] rest = []
seats_filled_with (Some x ∷ places) rest = Some x ∷ seats_filled_with places rest
seats_filled_with (None ∷ places) [] = None ∷ seats_filled_with places []
seats_filled_with (None ∷ places) (y ∷ rest) = Some y ∷ seats_filled_with places rest
