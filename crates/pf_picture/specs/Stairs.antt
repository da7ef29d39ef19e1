-- The windows of a task one below the other, with the slots that two neighbours share.
use Rattle.std.specs.Prelude.{ℕ, ◌+◌, ◌-◌, ◌*◌, max, min, nat_lt, if◌then◌else◌, Option, Some, List, [], ◌∷◌, ◌++◌, codes}
use Rattle.std.specs.Fmt.{decimal}
use Rattle.std.specs.Option.{option_map_or}
use Rattle.pf_courses.specs.declared.window.Window.{Window}
use Rattle.pf_picture.specs.Brackets.{eligible_at, window_at}
use Rattle.pf_picture.specs.Lane.{last_shown}
use Rattle.pf_picture.specs.Scale.{x_of}
use Rattle.pf_picture.specs.Shapes.{field_shape, words_shape}
use Rattle.pf_picture.specs.declared.lane.Lane.{Lane}

-- the first slot that a window and the next one share in the block, and where those end
abbrev pub shared_from : Lane → Window → ℕ
shared_from lane next = max next.release lane.scale.from

abbrev pub shared_to : Lane → Window → ℕ
shared_to lane w = min w.deadline (last_shown lane)

-- a field over both rows, of which the upper one is at the level z
unfoldable pub shared_text : Lane → ℕ → Window → Window → List ℕ
shared_text lane z w next =
    if nat_lt (shared_from lane next) (shared_to lane w)
    then field_shape (codes "b") (x_of lane.scale (shared_from lane next)) z (lane.scale.cell * (shared_to lane w - shared_from lane next)) 26
    else []

-- that of a window and the one before it, where there is one
unfoldable pub shared_if : Lane → ℕ → Option Window → Window → List ℕ
shared_if lane z before w = option_map_or (λ v. shared_text lane z v w) before []

-- those of these rows, the first of which stands 14 below the level z
abbrev pub shared_texts : Lane → ℕ → Option Window → List Window → List ℕ
shared_texts lane z before [] = []
shared_texts lane z before (w ∷ ws) = shared_if lane z before w ++ shared_texts lane (z + 14) (Some w) ws

-- the number of a window before its first slot, or before the first in which its subtask may run
unfoldable pub row_label : Lane → ℕ → Window → List ℕ
row_label lane z w = words_shape (codes "m") (x_of lane.scale (max (eligible_at lane w) lane.scale.from) - 3) (z + 10) (codes "T" ++ decimal w.sub)

abbrev pub row_text : Lane → List ℕ → ℕ → Window → List ℕ
row_text lane label z w = row_label lane z w ++ window_at lane label z w

-- these rows, the first at the level z
abbrev pub row_texts : Lane → List ℕ → ℕ → List Window → List ℕ
row_texts lane label z [] = []
row_texts lane label z (w ∷ ws) = row_text lane label z w ++ row_texts lane label (z + 14) ws
