-- How high the part of a task is: in stairs its windows lie in rows, one below the other.
use Rattle.std.specs.Prelude.{ℕ, ◌+◌, ◌*◌, max, min, Bool, false, ◌&&◌, ◌||◌, nat_le, nat_lt, List, length, filter}
use Rattle.std.specs.Option.{option_map_or}
use Rattle.std.specs.List.{fold}
use Rattle.pf_courses.specs.Course.{Track}
use Rattle.pf_courses.specs.declared.quantum.Quantum.{Quantum}
use Rattle.pf_courses.specs.declared.window.Window.{Window}
use Rattle.pf_vocabulary.specs.declared.look.style.Style.{Style}
use Rattle.pf_vocabulary.specs.declared.look.style.Style.TheVariants.{Strips, Stairs}
use Rattle.pf_picture.specs.Drawing.{Drawing}
use Rattle.pf_picture.specs.Scale.{Measures}

-- a slot of the block
abbrev pub is_shown : Measures → Quantum → Bool
is_shown s q = nat_le s.from q.slot && nat_lt q.slot s.to

-- a window of a task with this end has a slot in the block, or its subtask ran in it
abbrev pub is_in_row : Measures → ℕ → Window → Bool
is_in_row s end w = nat_lt (max w.release s.from) (min (min w.deadline end) s.to) || option_map_or (is_shown s) w.ran false

-- the windows that have a row
abbrev pub rows_of : Measures → Track → List Window
rows_of s track = filter (is_in_row s track.end) track.windows

abbrev pub row_count : Measures → Track → ℕ
row_count s track = length (rows_of s track)

-- how high the part of a task is
abbrev pub height_in : Style → Measures → Drawing → ℕ
height_in Strips s drawing = 72
height_in Stairs s drawing = 28 + 14 * option_map_or (row_count s) drawing.listing.track 0

abbrev pub height_of : Measures → Drawing → ℕ
height_of s drawing = height_in s.style s drawing

-- how high a block is
abbrev pub block_height : Measures → List Drawing → ℕ
block_height s drawings = fold (λ height drawing. height + height_of s drawing) (48 + 20 * s.processors) drawings
