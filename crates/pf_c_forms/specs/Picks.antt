-- Who runs where, as C gets it.
use Rattle.std.specs.Prelude.{ℕ, ◌≡◌, ◌⊎◌, ◌<◌, ◌≤◌, Option, None, Some, [], List, length}
use Rattle.std.specs.List.{slice_index_or}
use Rattle.pf_order.specs.declared.pick.Pick.{Pick}
use Rattle.pf_place.specs.Occupancy.{sitter}
use Rattle.pf_c_forms.specs.declared.raw_pick.RawPick.{RawPick}
use Rattle.pf_c_forms.specs.declared.status.TheConstants.{OK, OUT_OF_RANGE, TOO_SHORT}

-- nobody is task 0
abbrev pub raw_pick : Option Pick → RawPick
raw_pick None = record { task = 0; sub = 0 }
raw_pick (Some pick) = record { task = pick.task; sub = pick.sub }

-- the room has the picks of these places, on the processors below m, and is else as before
abbrev pub HasPicks : ℕ → List (Option Pick) → List RawPick → List RawPick → Type 0
HasPicks m places room filled =
    ((k : ℕ) → k < m → slice_index_or filled k (raw_pick None) ≡ raw_pick (sitter places k))
    × ((k : ℕ) → m ≤ k → slice_index_or filled k (raw_pick None) ≡ slice_index_or room k (raw_pick None))

-- the room has a pick of each of m processors in a slot of these rows; or the slot was not stepped, or the room is too short
abbrev pub FillsRow : (slot m : ℕ) → List (List (Option Pick)) → ℕ → List RawPick → List RawPick → Type 0
FillsRow slot m rows status room filled =
    ((status ≡ OK) × (slot < length rows) × HasPicks m (slice_index_or rows slot []) room filled)
    ⊎ (((status ≡ OUT_OF_RANGE) × (length rows ≤ slot))
    ⊎ ((status ≡ TOO_SHORT) × (slot < length rows) × (length filled < m)))
