-- How commands that took no slot are kept: in small, and those that have no small form apart.
use Rattle.std.specs.Prelude.{ℕ, ◌<◌, ◌-◌, ⊤, List, length, map}
use Rattle.std.specs.List.{slice_index_or}
use Rattle.pf_desk.specs.declared.settled.Settled.{Settled}
use Rattle.pf_desk.specs.declared.settlements.Kept.{Kept}
use Rattle.pf_desk.specs.declared.settlements.Kept.TheVariants.{Small, Wide}
use Rattle.pf_desk.specs.Settled.{Listed, nothing_settled}
use Rattle.pf_desk.specs.Small.{settled_of_edit}

-- where it is apart, it is one of so many
abbrev pub IsWithin : ℕ → Kept → Type 0
IsWithin count (Small small) = ⊤
IsWithin count (Wide index) = index < count

-- the command with its answer that is kept so, where these are those apart
abbrev pub settled_at : List Settled → Kept → Settled
settled_at wide (Small small) = settled_of_edit small
settled_at wide (Wide index) = slice_index_or wide index nothing_settled

-- those that are kept so, in so much memory
abbrev pub listed_by : List Kept → List Settled → ℕ → ℕ → Listed
listed_by kept wide for_kept for_wide = record {
  items = map (settled_at wide) kept;
  room = for_kept - length kept;
  wide_room = for_wide - length wide;
}
