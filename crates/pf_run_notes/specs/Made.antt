-- Which record made each event as it stands.
use Rattle.std.specs.Prelude.{ℕ, ◌-◌, Option, List, [], ◌∷◌, ◌++◌, slice_set}
use Rattle.std.specs.List.{slice_get}
use Rattle.pf_scenario.specs.declared.change.Change.{Change}
use Rattle.pf_scenario.specs.declared.change.Change.TheVariants.{Insert, Alter, Strike}
use Rattle.pf_run_notes.specs.declared.place.Place.{Place}

-- the places by number, from that of event 1 on, after a change that was made by the record at this place
abbrev pub made_after : List Place → Place → Change → List Place
made_after places place (Insert event) = places ++ place ∷ []
made_after places place (Alter id event) = slice_set places (id - 1) place
made_after places place (Strike id) = places

-- the place of the record that made the event of this number
abbrev pub maker_of : List Place → ℕ → Option Place
maker_of places id = slice_get places (id - 1)
