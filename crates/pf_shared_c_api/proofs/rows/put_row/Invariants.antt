use Rattle.std.proofs.Common.{◌≡◌, ◌<◌, ◌≤◌, ◌+◌, ◌⊎◌, ℕ, length}
use Rattle.pf_place.specs.Occupancy.{sitter}
use Rattle.pf_place.specs.Lent.{lent_row}
use Rattle.pf_c_forms.specs.Picks.{raw_pick}
use Rattle.pf_shared_c_api.specs.Rows.{pick_at}
use Rattle.pf_shared_c_api.proofs.rows.put_row.Given as goal

abbrev pub invariant-loop-k : goal.invariant-loop-k
invariant-loop-k l =
    (length l.room ≡ length l.fn.room)
    × ((j : ℕ) → j < l.k → pick_at l.room (l.at + j) ≡ raw_pick (sitter (lent_row l.row) j))
    × ((j : ℕ) → (j < l.at) ⊎ (l.at + l.k ≤ j) → pick_at l.room j ≡ pick_at l.fn.room j)
