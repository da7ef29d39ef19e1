-- What is drawn of one window: the slots before its release in which its subtask may run, a bracket over its slots, the
-- slots after its deadline in which it waited, and its quantum.
use Rattle.std.specs.Prelude.{ℕ, ◌+◌, ◌-◌, ◌*◌, ◌/◌, ◌==◌, max, min, Bool, ◌&&◌, nat_le, nat_lt, if◌then◌else◌, Some, List, [], ◌++◌, codes}
use Rattle.std.specs.Option.{option_map_or}
use Rattle.pf_courses.specs.declared.quantum.Quantum.{Quantum}
use Rattle.pf_courses.specs.declared.window.Window.{Window}
use Rattle.pf_picture.specs.Boxes.{box_text, number_if_room}
use Rattle.pf_picture.specs.Lane.{last_shown, level_of}
use Rattle.pf_picture.specs.Scale.{inset_of, x_of}
use Rattle.pf_picture.specs.Shapes.{bracket_shape, stretch_shape}
use Rattle.pf_picture.specs.declared.lane.Lane.{Lane}
use Rattle.pf_picture.specs.declared.turn.Turn.{Turn}

-- the first slot in which its subtask may run
abbrev pub eligible_at : Lane → Window → ℕ
eligible_at lane w = max lane.joined (w.release - lane.early)

-- dashes before its release, at the level z
unfoldable pub early_text : Lane → ℕ → Window → List ℕ
early_text lane z w =
    if nat_lt (eligible_at lane w) w.release && nat_lt lane.scale.from w.release && nat_lt (eligible_at lane w) lane.scale.to
    then stretch_shape (codes "e") (x_of lane.scale (max (eligible_at lane w) lane.scale.from)) (z + 12) (x_of lane.scale (min w.release lane.scale.to))
    else []

-- the slots of the bracket, from the first on, below the last
abbrev pub bracket_from : Lane → Window → ℕ
bracket_from lane w = max w.release lane.scale.from

abbrev pub bracket_to : Lane → Window → ℕ
bracket_to lane w = min w.deadline (last_shown lane)

-- an end is open where the window is cut
abbrev pub end_at : Bool → ℕ → ℕ
end_at whole z = if whole then z else z + 12

-- red where it was missed
abbrev pub bracket_class : Window → List ℕ
bracket_class w = if w.late then codes "v" else codes "w"

unfoldable pub bracket_text : Lane → ℕ → Window → List ℕ
bracket_text lane z w =
    if nat_lt (bracket_from lane w) (bracket_to lane w)
    then bracket_shape (bracket_class w) (x_of lane.scale (bracket_from lane w) + 2) (x_of lane.scale (bracket_to lane w) - 2) (z + 12)
    (end_at (nat_le lane.scale.from w.release) z) (end_at (bracket_to lane w == w.deadline) z)
    else []

-- the slot in which its subtask ran, or the task's end where it did not
abbrev pub ran_at : Lane → Window → ℕ
ran_at lane w = option_map_or (λ q. q.slot) w.ran lane.end

unfoldable pub late_text : Lane → ℕ → Window → List ℕ
late_text lane z w =
    if w.late && nat_lt (max w.deadline lane.scale.from) (min (ran_at lane w) lane.scale.to)
    then stretch_shape (codes "o") (x_of lane.scale (max w.deadline lane.scale.from)) (z + 5) (x_of lane.scale (min (ran_at lane w) lane.scale.to))
    else []

-- its quantum
abbrev pub turn_of : Lane → Window → Quantum → Turn
turn_of lane w q = record { place = Some lane.place; sub = w.sub; window = w; quantum = q }

unfoldable pub quantum_text : Lane → List ℕ → ℕ → Window → Quantum → List ℕ
quantum_text lane label z w q =
    if nat_le lane.scale.from q.slot && nat_lt q.slot lane.scale.to
    then box_text label (turn_of lane w q) (x_of lane.scale q.slot + inset_of lane.scale) z (lane.scale.cell - 2 * inset_of lane.scale) 10
    ++ number_if_room (turn_of lane w q) q.processor (lane.scale.cell - 2 * inset_of lane.scale) (x_of lane.scale q.slot + lane.scale.cell / 2) (z + 9)
    else []

unfoldable pub ran_text : Lane → List ℕ → ℕ → Window → List ℕ
ran_text lane label z w = option_map_or (quantum_text lane label z w) w.ran []

-- what is drawn of a window at the level z
unfoldable pub window_at : Lane → List ℕ → ℕ → Window → List ℕ
window_at lane label z w = early_text lane z w ++ bracket_text lane z w ++ late_text lane z w ++ ran_text lane label z w

-- that in a strip
abbrev pub window_text : Lane → List ℕ → Window → List ℕ
window_text lane label w = window_at lane label (level_of lane w.sub) w
