use Rattle.std.proofs.Common.{◌≡◌, ◌<◌, ◌≤◌, ℕ, None, get_or, length}
use Rattle.pf_place.specs.Occupancy.{sitter}
use Rattle.pf_place.specs.Lent.{lent_row}
use Rattle.pf_c_forms.specs.Picks.{raw_pick}
use Rattle.pf_c_forms.proofs.row_room.fill_places.Given as goal

abbrev pub invariant-loop-k : goal.invariant-loop-k
invariant-loop-k l =
    (length l.room ≡ length l.fn.room)
    × ((j : ℕ) → j < l.k → get_or l.room j (raw_pick None) ≡ raw_pick (sitter (lent_row l.row) j))
    × ((j : ℕ) → l.k ≤ j → get_or l.room j (raw_pick None) ≡ get_or l.fn.room j (raw_pick None))
