-- The row of a processor: what runs on it in each slot.
use Rattle.std.specs.Prelude.{ℕ, ◌+◌, ◌-◌, ◌/◌, ◌==◌, nat_le, if◌then◌else◌, Option, None, Some, List, [], ◌++◌, codes, position, slice_index_or}
use Rattle.std.specs.List.{flat_map, range_with_len, slice_get}
use Rattle.std.specs.Option.{option_map_or, option_and_then}
use Rattle.pf_order.specs.declared.pick.Pick.{Pick}
use Rattle.pf_place.specs.Occupancy.{sitter}
use Rattle.pf_desk.specs.Desk.{Seen}
use Rattle.pf_courses.specs.Activity.{running_in}
use Rattle.pf_courses.specs.Listing.{count_in}
use Rattle.pf_courses.specs.declared.quantum.Quantum.{Quantum}
use Rattle.pf_courses.specs.declared.window.Window.{Window}
use Rattle.pf_picture.specs.Boxes.{box_text, number_if_room}
use Rattle.pf_picture.specs.Drawing.{Drawing}
use Rattle.pf_picture.specs.Element.{put}
use Rattle.pf_picture.specs.Scale.{Measures, processor_top, x_of}
use Rattle.pf_picture.specs.Shapes.{field_shape}
use Rattle.pf_picture.specs.Shown.{TaskDrawings}
use Rattle.pf_picture.specs.declared.turn.Turn.{Turn}

unfoldable pub processor_name : ℕ → ℕ → List ℕ
processor_name top p = put (codes "<text x=\"8\" y=\"") (top + 12) (put (codes "\">p") p (codes "</text>\n"))

-- the window of the subtask that a listed task runs in slot t
abbrev pub window_in : ℕ → Drawing → Option Window
window_in t drawing = option_and_then (λ track. running_in track t) drawing.listing.track

-- the subtask with this window that runs, whose task has this place among those shown, if it is shown
abbrev pub turn_with : Pick → Quantum → Option ℕ → Window → Turn
turn_with pick quantum place window = record { place = place; sub = pick.sub; window = window; quantum = quantum }

-- the box of a subtask in a processor's row, and its task's number
unfoldable pub turn_text : Measures → List ℕ → ℕ → Turn → List ℕ
turn_text s label task turn =
    box_text label turn (x_of s turn.quantum.slot + 1) (processor_top turn.quantum.processor) (s.cell - 2) 16
    ++ number_if_room turn task (s.cell - 2) (x_of s turn.quantum.slot + s.cell / 2) (processor_top turn.quantum.processor + 12)

-- that of a task of this place, if it runs
abbrev pub run_text : Measures → Quantum → Pick → Option ℕ → Drawing → List ℕ
run_text s quantum pick place drawing =
    option_map_or (λ window. turn_text s drawing.label pick.task (turn_with pick quantum place window)) (window_in quantum.slot drawing) []

-- that of the task of the pick, which is none of those shown
abbrev pub other_text : Measures → List Drawing → Quantum → Pick → List ℕ
other_text s others quantum pick =
    option_map_or (λ at. option_map_or (run_text s quantum pick None) (slice_get others at) [])
    (position (λ drawing. drawing.listing.task == pick.task) others) []

-- that of the task of the pick
abbrev pub pick_text : Measures → List Drawing → List Drawing → Quantum → Pick → List ℕ
pick_text s shown others quantum pick =
    option_map_or (λ place. option_map_or (run_text s quantum pick (Some place)) (slice_get shown place) [])
    (position (λ drawing. drawing.listing.task == pick.task) shown) (other_text s others quantum pick)

-- slot t in the row of processor p, where so many are in use
abbrev pub cell_text : Measures → TaskDrawings → ℕ → List (Option Pick) → ℕ → ℕ → List ℕ
cell_text s drawings count row p t =
    if nat_le count p then field_shape (codes "u") (x_of s t) (processor_top p) s.cell 16
    else option_map_or (pick_text s drawings.shown drawings.others (record { slot = t; processor = p })) (sitter row p) []

abbrev pub slot_text : Seen → Measures → TaskDrawings → ℕ → ℕ → List ℕ
slot_text seen s drawings p t = cell_text s drawings (count_in seen.state.plan seen.state.now t) (slice_index_or seen.rows t []) p t

-- the row of processor p
unfoldable pub processor_text : Seen → Measures → TaskDrawings → ℕ → List ℕ
processor_text seen s drawings p =
    processor_name (processor_top p) p ++ flat_map (slot_text seen s drawings p) (range_with_len s.from (s.to - s.from))
