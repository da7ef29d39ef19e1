-- How far near checkpoints lie apart, and where they are.
use Rattle.std.specs.Prelude.{ℕ}

-- the distance of two near checkpoints, which are those of the last slots
abbrev pub near_distance : ℕ
near_distance = 32

-- how many slots before its end a timeline has near checkpoints
abbrev pub near_slots : ℕ
near_slots = 256

-- how many near checkpoints it has at most, and over how many slots
abbrev pub most_near : ℕ
most_near = 18

abbrev pub most_near_slots : ℕ
most_near_slots = 576
