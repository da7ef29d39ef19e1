-- Items that several owners share.
use Rattle.std.specs.Prelude.{Option, None, Some, List, [], map}
use Rattle.std.specs.Arc.{arc_value}
use Rattle.std.specs.declared.sync.Arc.{Arc}
use Rattle.std.specs.declared.vec.Vec.{Vec}

module _ {X A : Type 0} where
  -- what each of these owners owns
  abbrev pub values_of : List (Arc X A) → List X
  values_of owners = map (λ (owner : Arc X A). arc_value {X = X} {Z = A} owner) owners

  -- the items of owners that are shared, where any are
  abbrev pub items_shared : Option (Arc (Vec (Arc X A) A) A) → List X
  items_shared None = []
  items_shared (Some owners) = values_of (arc_value {X = Vec (Arc X A) A} {Z = A} owners).items

  -- the items of a vector that is shared, or else these
  abbrev pub items_or : List X → Option (Arc (Vec X A) A) → List X
  items_or items None = items
  items_or items (Some vec) = (arc_value {X = Vec X A} {Z = A} vec).items
