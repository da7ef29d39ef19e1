-- Where a task is drawn.
use Rattle.std.specs.Prelude.{ℕ, ◌+◌, ◌-◌, ◌*◌, ◌%◌, ◌^◌, ◌≤◌, max, min}
use Rattle.pf_courses.specs.Course.{Track}
use Rattle.pf_vocabulary.specs.declared.look.style.Style.{Style}
use Rattle.pf_vocabulary.specs.declared.look.style.Style.TheVariants.{Strips, Stairs}
use Rattle.pf_picture.specs.Scale.{Measures}
use Rattle.pf_picture.specs.declared.lane.Lane.{Lane}

-- the windows of a strip lie in two rows in turn
abbrev pub level_of : Lane → ℕ → ℕ
level_of lane i = lane.top + 2 + 14 * ((i - 1) % 2)

-- the first row of stairs, each next one of which lies 14 below
abbrev pub first_row : Lane → ℕ
first_row lane = lane.top + 20

-- where stairs end
abbrev pub stairs_end : Lane → ℕ
stairs_end lane = lane.top + 20 + 14 * lane.rows

-- how high a stop of the task's clock is drawn
abbrev pub stop_height : Style → ℕ → ℕ
stop_height Strips rows = 64
stop_height Stairs rows = 20 + 14 * rows

-- where joins, leaves and denied events are drawn
abbrev pub events_level : Style → ℕ → ℕ
events_level Strips top = top + 29
events_level Stairs top = top + 6

-- the slots in which the task is inside and shown: from the first on, below the last
abbrev pub first_shown : Lane → ℕ
first_shown lane = max lane.joined lane.scale.from

abbrev pub last_shown : Lane → ℕ
last_shown lane = min lane.end lane.scale.to

-- the lane of an admitted task of this place, whose part begins at `top` and has so many rows
abbrev pub lane_of : Measures → ℕ → ℕ → ℕ → ℕ → Track → Lane
lane_of scale top place rows early track =
    record { scale = scale; top = top; rows = rows; place = place; joined = track.joined; end = track.end; early = early }

-- its top is below the head and above the end of any picture
pub record IsLane (lane : Lane) : Type 0 where
  pub below : 56 ≤ lane.top
  pub above : lane.top ≤ 2 ^ 100
  pub rows : lane.rows ≤ 2 ^ 64
