-- How a block begins: where it stands, and a line at each slot.
use Rattle.std.specs.Prelude.{ℕ, ◌+◌, ◌-◌, ◌%◌, ◌==◌, if◌then◌else◌, Option, List, ◌++◌, codes}
use Rattle.std.specs.List.{flat_map, range_with_len}
use Rattle.std.specs.Option.{option_map_or}
use Rattle.pf_vocabulary.specs.Names.Slots.{unit_word}
use Rattle.pf_vocabulary.specs.declared.names.slot_length.SlotLength.{SlotLength}
use Rattle.pf_picture.specs.Element.{put, put_word}
use Rattle.pf_picture.specs.Scale.{Measures, time_in, x_of}

-- all of the block lies so far below the picture's top
unfoldable pub shift_text : ℕ → List ℕ
shift_text offset = put (codes "<g transform=\"translate(0 ") offset (codes ")\">\n")

-- what is counted over the slots: slots, or the unit of their length
abbrev pub unit_words : Option SlotLength → List ℕ
unit_words slot = option_map_or (λ l. unit_word l.unit) slot (codes "slot")

unfoldable pub unit_text : List ℕ → List ℕ
unit_text words = put_word (codes "<text x=\"8\" y=\"36\">") words (codes "</text>\n")

-- a line down through the block at the left end of a slot, and its number or its time over it
unfoldable pub line_text : List ℕ → ℕ → ℕ → List ℕ
line_text class x bottom = put_word (codes "<path class=\"") class (put (codes "\" d=\"M") x (put (codes " 40V") bottom (codes "\"/>\n")))

unfoldable pub slot_number : ℕ → ℕ → List ℕ
slot_number x t = put (codes "<text class=\"a\" x=\"") x (put (codes "\" y=\"36\">") t (codes "</text>\n"))

abbrev pub grid_line : Measures → ℕ → ℕ → List ℕ
grid_line s bottom t =
    if t % s.step == 0
    then line_text (codes "h") (x_of s t) bottom ++ slot_number (x_of s t) (time_in s.slot t)
    else line_text (codes "g") (x_of s t) bottom

unfoldable pub grid_text : Measures → ℕ → List ℕ
grid_text s bottom = flat_map (grid_line s bottom) (range_with_len s.from (s.to + 1 - s.from))

-- how a block of this height begins
unfoldable pub block_front : Measures → ℕ → ℕ → List ℕ
block_front s offset height = shift_text offset ++ unit_text (unit_words s.slot) ++ grid_text s (height + 8)
