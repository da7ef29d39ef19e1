-- How the views of seats are cut and joined.
use Rattle.std.specs.Prelude.{ℕ, ◌+◌, true, false, List, [], ◌∷◌, ◌++◌}
use Rattle.atomic_table.specs.Seated.{TableId}
use Rattle.pf_board.specs.declared.hand.Hand.{Hand}
use Rattle.pf_board.specs.declared.view.View.{View}
use Rattle.pf_board.specs.declared.charter.Charter.{Charter}
use Rattle.pf_board.specs.Passes.{Passing, Keeping, Turning}

module _ {E T : Type 0} where
  -- a seat that knows nothing but the terms
  abbrev pub blank : List T → View E T
  blank terms = record { terms = terms; named = false; me = 0; seen = []; mine = []; taken = []; loads = []; guests = []; turn = false; whole = []; next = 0; empty = []; issued = []; left = [] }

  -- what a seat that was joined to another is left with
  abbrev pub spent : View E T
  spent = blank []

  -- the first seat, which has the turn, after it made so many passes
  abbrev pub first_view : T → ℕ → View E T
  first_view terms n = record (blank (terms ∷ [])) { turn = true; next = n }

  abbrev pub opening : Charter T → View E T
  opening charter = first_view charter.terms.value 0

  -- a pass with the next number, and the seat that made it
  abbrev pub made_pass : View E T → View E T
  made_pass v = record (blank v.terms) { named = true; me = v.next }

  abbrev pub maker : View E T → View E T
  maker v = record v { next = v.next + 1 }

  -- v without the turn, a new seat with it alone, and v with the turn of w
  abbrev pub without_turn : View E T → View E T
  without_turn v = record v { turn = false; whole = []; next = 0; empty = []; issued = []; left = [] }

  abbrev pub turn_of : View E T → View E T
  turn_of v = record (blank v.terms) { turn = v.turn; whole = v.whole; next = v.next; empty = v.empty; issued = v.issued; left = v.left }

  abbrev pub with_turn : View E T → View E T → View E T
  with_turn v w = record v { turn = w.turn; whole = w.whole; next = w.next; empty = w.empty; issued = w.issued; left = w.left }

  -- a pass without its hand, and a new seat that carries it
  abbrev pub hand_of : View E T → Hand E
  hand_of v = record { me = v.me; seen = v.seen; mine = v.mine; taken = v.taken }

  abbrev pub without_hand : View E T → View E T
  without_hand v = record v { named = false; mine = []; taken = [] }

  abbrev pub carrier_of : View E T → View E T
  carrier_of v = record (blank v.terms) { guests = hand_of v ∷ [] }

  -- v carries what w carried; and v without what it carries, which a new seat does
  abbrev pub hosting : View E T → View E T → View E T
  hosting v w = record v { guests = v.guests ++ w.guests }

  abbrev pub without_guests : View E T → View E T
  without_guests v = record v { guests = [] }

  abbrev pub guests_of : View E T → View E T
  guests_of v = record (blank v.terms) { guests = v.guests }

  -- v without what its loads found, a new seat with it alone, and v with what those of w found after its own
  abbrev pub without_loads : View E T → View E T
  without_loads v = record v { loads = [] }

  abbrev pub loads_of : View E T → View E T
  loads_of v = record (blank v.terms) { loads = v.loads }

  abbrev pub with_loads : View E T → View E T → View E T
  with_loads v w = record v { loads = v.loads ++ w.loads }

  -- v gets its hand back
  abbrev pub handed : View E T → List (Hand E) → View E T
  handed v [] = v
  handed v (g ∷ gs) = record v { named = true; me = g.me; mine = g.mine; taken = g.taken }

  abbrev pub with_hand : View E T → View E T → View E T
  with_hand v w = handed v w.guests

  -- what contracts see of the views of a pass, the keeper and a turn
  abbrev pub passing : TableId → View E T → Passing E T
  passing board v = record { board = board; terms = v.terms; me = v.me; seen = v.seen; mine = v.mine; taken = v.taken; loads = v.loads }

  abbrev pub keeping : TableId → View E T → Keeping E T
  keeping board v = record { board = board; terms = v.terms; seen = v.seen; loads = v.loads; has_turn = v.turn; empty = v.empty; left = v.left }

  abbrev pub turning : TableId → View E T → Turning E
  turning board v = record { board = board; whole = v.whole; empty = v.empty; left = v.left }
