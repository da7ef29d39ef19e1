use Rattle.std.proofs.Common.{◌≡◌, ℕ, ◌<◌, None, length, get_or}
use Rattle.pf_place.proofs.row_view.unpack.Given as goal

abbrev pub invariant-loop-k : goal.invariant-loop-k
invariant-loop-k l = (length l.places ≡ length l.row) × ((j : ℕ) → j < l.k → get_or l.places j None ≡ get_or l.row j None)
