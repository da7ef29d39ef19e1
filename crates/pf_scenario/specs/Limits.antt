-- How far the checkpoints of a run may lie apart.
use Rattle.std.specs.Prelude.{ℕ}

-- the greatest distance of two checkpoints, in slots
abbrev pub largest_distance : ℕ
largest_distance = 4096
