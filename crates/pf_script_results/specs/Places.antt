-- Where the records of a script stand.
use Rattle.std.specs.Prelude.{ℕ, ◌-◌, ◌≡◌, ◌≤◌, Option, None, Some, List, [], drop, slice_index_or}
use Rattle.pf_script.specs.Left.{lines_left}
use Rattle.pf_script.specs.Places.{record_lines}
use Rattle.pf_plain_script.specs.declared.origin.Origin.{Origin}
use Rattle.pf_run_notes.specs.declared.place.Place.{Place}
use Rattle.pf_script_results.specs.declared.places.Places.{Places}
use Rattle.pf_script_results.specs.declared.places.Places.TheVariants.{Origins, Lines}

abbrev pub place_of_origin : Origin → Place
place_of_origin origin = record { «record» = origin.number; line = origin.line; column = origin.column }

-- the place of the record of this number of a script of these bytes, which begins a line; where it belongs to a plan, that of the
-- record there that it comes from
abbrev pub place_of : Option (List Origin) → List ℕ → ℕ → Place
place_of None script number = record { «record» = number; line = slice_index_or (record_lines script) (number - 1) 0; column = 1 }
place_of (Some origins) script number =
    place_of_origin (slice_index_or origins (number - 1) (record { number = number; line = 0; column = 1 }))

-- these tell the places of a script's records above this number
abbrev pub ArePlaces : Option (List Origin) → List ℕ → ℕ → Places → Type 0
ArePlaces origins script bound (Origins told) = origins ≡ Some told.now
ArePlaces origins script bound (Lines left) =
    (origins ≡ None) × (lines_left left.lines ≡ drop left.behind (record_lines script)) × (left.behind ≤ bound)

-- the place of the record of this number was told by the lines after so many records, and those after it are left
pub record IsBehind (number : ℕ) (old : List ℕ) (old_behind : ℕ) (place : Place) (new : List ℕ) (new_behind : ℕ) : Type 0 where
  pub place_is : place ≡ record { «record» = number; line = slice_index_or old (number - old_behind - 1) 0; column = 1 }
  pub left : new ≡ drop (number - old_behind) old
  pub behind : new_behind ≡ number
