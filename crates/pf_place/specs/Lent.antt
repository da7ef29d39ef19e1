-- A row that is lent.
use Rattle.std.specs.Prelude.{Option, List}
use Rattle.std.specs.Option.{option_map}
use Rattle.pf_order.specs.declared.pick.Pick.{Pick}
use Rattle.pf_place.specs.declared.places.Places.{Places}
use Rattle.pf_place.specs.declared.places.Places.TheVariants.{Plain, Small}
use Rattle.pf_place.specs.declared.row_view.RowView.{RowView}

-- who runs on each of these places
abbrev pub seated_on : Places → List (Option Pick)
seated_on (Plain places) = places.now
seated_on (Small places) = places.now

-- the row that the view shows
abbrev pub lent_row : RowView → List (Option Pick)
lent_row view = seated_on view.places

-- the row that is lent, where one is
abbrev pub places_lent : Option RowView → Option (List (Option Pick))
places_lent view = option_map lent_row view
