use Rattle.std.proofs.Common.{◌≡◌, ℕ, ◌<◌, None, take, get_or}
use Rattle.pf_place.specs.Index.{AreMarked}
use Rattle.pf_place.specs.Lent.{lent_row}
use Rattle.pf_place.specs.Occupancy.{sitter, next_pick}
use Rattle.pf_place.proofs.seating.keep.Given as goal

abbrev pub invariant-loop-q : goal.invariant-loop-q
invariant-loop-q l =
    ((k : ℕ) → k < l.q → get_or l.places k None ≡ next_pick l.index (sitter (lent_row l.earlier) k))
    × AreMarked l.marks (take l.q (lent_row l.earlier)) l.index
