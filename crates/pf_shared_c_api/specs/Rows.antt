-- The rows of many slots, as C gets them.
use Rattle.std.specs.Prelude.{ℕ, ◌≡◌, ◌⊎◌, ◌<◌, ◌≤◌, ◌+◌, ◌-◌, ◌*◌, Option, None, [], List, length}
use Rattle.std.specs.List.{slice_index_or}
use Rattle.pf_order.specs.declared.pick.Pick.{Pick}
use Rattle.pf_place.specs.Occupancy.{sitter}
use Rattle.pf_desk.specs.Desk.{Seen}
use Rattle.pf_c_forms.specs.Picks.{raw_pick}
use Rattle.pf_c_forms.specs.declared.raw_pick.RawPick.{RawPick}
use Rattle.pf_c_forms.specs.declared.status.TheConstants.{OK, OUT_OF_RANGE, TOO_SHORT}

-- what lies at a place of a room
abbrev pub pick_at : List RawPick → ℕ → RawPick
pick_at room k = slice_index_or room k (raw_pick None)

-- the room has the picks of these places from `at` on, on the processors below m, and is else as before
abbrev pub HasPicksFrom : (at m : ℕ) → List (Option Pick) → List RawPick → List RawPick → Type 0
HasPicksFrom at m places room filled =
    ((k : ℕ) → k < m → pick_at filled (at + k) ≡ raw_pick (sitter places k))
    × ((k : ℕ) → (k < at) ⊎ (at + m ≤ k) → pick_at filled k ≡ pick_at room k)

-- the room has the picks of n of these rows from one on, of m processors each, one row behind the other, and is else as before
abbrev pub HasRows : (m from n : ℕ) → List (List (Option Pick)) → List RawPick → List RawPick → Type 0
HasRows m from n rows room filled =
    ((t k : ℕ) → t < n → k < m → pick_at filled (t * m + k) ≡ raw_pick (sitter (slice_index_or rows (from + t) []) k))
    × ((k : ℕ) → n * m ≤ k → pick_at filled k ≡ pick_at room k)

-- the room has the rows of these slots; or they were not all stepped, or the room is too short
abbrev pub FillsRows : (from to : ℕ) → Seen → ℕ → List RawPick → List RawPick → Type 0
FillsRows from to s status room filled =
    ((status ≡ OK) × (from ≤ to) × (to ≤ length s.rows)
    × HasRows s.state.plan.settings.processors from (to - from) s.rows room filled)
    ⊎ (((status ≡ OUT_OF_RANGE) × ((to < from) ⊎ (length s.rows < to)))
    ⊎ ((status ≡ TOO_SHORT) × (from ≤ to) × (to ≤ length s.rows)
    × (length filled < (to - from) * s.state.plan.settings.processors)))
