-- The box of a quantum.
use Rattle.std.specs.Prelude.{ℕ, ◌+◌, ◌-◌, ◌*◌, ◌%◌, ◌==◌, Bool, false, nat_le, if◌then◌else◌, List, [], ◌++◌, codes, length}
use Rattle.std.specs.Fmt.{decimal}
use Rattle.std.specs.Option.{option_map_or}
use Rattle.pf_courses.specs.declared.window.Window.{Window}
use Rattle.pf_picture.specs.Element.{put, put_word}
use Rattle.pf_picture.specs.Shapes.{words_shape}
use Rattle.pf_picture.specs.declared.turn.Turn.{Turn}

-- what a pointer shows at it: slot, processor and task, the subtask and its window, its group deadline if it has one, and by
-- how many slots it ran late if it did
unfoldable pub quantum_words : List ℕ → Turn → List ℕ
quantum_words label turn = put (codes "<title>slot ") turn.quantum.slot (put (codes ", p") turn.quantum.processor (codes ": " ++ label))

unfoldable pub window_words : Turn → List ℕ
window_words turn = put (codes ", subtask ") turn.sub (put (codes ", window ") turn.window.release (codes " to " ++ decimal turn.window.deadline))

unfoldable pub group_words : Window → List ℕ
group_words w = if w.group == 0 then [] else codes ", group deadline " ++ decimal w.group

unfoldable pub late_words : Turn → List ℕ
late_words turn = if turn.window.late then codes ", late by " ++ decimal (turn.quantum.slot + 1 - turn.window.deadline) else []

abbrev pub title_text : List ℕ → Turn → List ℕ
title_text label turn = quantum_words label turn ++ window_words turn ++ group_words turn.window ++ late_words turn ++ codes "</title>"

-- one of twelve colours by the task's place among those shown, or grey
unfoldable pub place_colour : ℕ → List ℕ
place_colour place = codes "c" ++ decimal (place % 12)

abbrev pub colour_text : Turn → List ℕ
colour_text turn = option_map_or place_colour turn.place (codes "y")

-- red round it where it ran late
unfoldable pub class_text : Turn → List ℕ
class_text turn = (if turn.window.late then codes "q t " else codes "q ") ++ colour_text turn

unfoldable pub rect_text : List ℕ → ℕ → ℕ → ℕ → ℕ → List ℕ
rect_text class x y width height =
    put_word (codes "<rect class=\"") class (put (codes "\" x=\"") x (put (codes "\" y=\"") y
    (put (codes "\" width=\"") width (put (codes "\" height=\"") height (codes "\">")))))

unfoldable pub box_text : List ℕ → Turn → ℕ → ℕ → ℕ → ℕ → List ℕ
box_text label turn x y width height = rect_text (class_text turn) x y width height ++ title_text label turn ++ codes "</rect>\n"

-- light digits on a dark colour: each second one is dark
abbrev pub is_dark : Turn → Bool
is_dark turn = option_map_or (λ place. place % 2 == 1) turn.place false

abbrev pub digits_class : Turn → List ℕ
digits_class turn = if is_dark turn then codes "n i" else codes "n"

-- a number in the box, where there is room for it
unfoldable pub number_if_room : Turn → ℕ → ℕ → ℕ → ℕ → List ℕ
number_if_room turn n room x y = if nat_le (6 * length (decimal n)) room then words_shape (digits_class turn) x y (decimal n) else []
