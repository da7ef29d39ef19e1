-- What the signs of a picture mean.
use Rattle.std.specs.Prelude.{ℕ, ◌+◌, ◌*◌, ◌/◌, ◌%◌, List, ◌++◌, codes}
use Rattle.pf_vocabulary.specs.declared.look.style.Style.{Style}
use Rattle.pf_vocabulary.specs.declared.look.style.Style.TheVariants.{Strips, Stairs}
use Rattle.pf_picture.specs.Element.{put, put_word}
use Rattle.pf_picture.specs.Scale.{Measures, columns_of}

-- a sign and what it means, in the column and on the line of the item of this place
unfoldable pub item_place : ℕ → ℕ → List ℕ
item_place x y = put (codes "<g transform=\"translate(") x (put (codes " ") y (codes ")\">"))

unfoldable pub item_words : List ℕ → List ℕ
item_words words = put_word (codes "<text x=\"28\" y=\"10\">") words (codes "</text></g>\n")

abbrev pub item_at : ℕ → ℕ → List ℕ → List ℕ → List ℕ
item_at x y sign words = item_place x y ++ sign ++ item_words words

abbrev pub item_text : Measures → ℕ → ℕ → List ℕ → List ℕ → List ℕ
item_text s end k sign words = item_at (8 + 172 * (k % columns_of s)) (end + 36 + 16 * (k / columns_of s)) sign words

-- what is drawn of a window
unfoldable pub window_items : Measures → ℕ → List ℕ
window_items s end =
    item_text s end 0 (codes "<rect class=\"q c0\" x=\"1\" y=\"1\" width=\"20\" height=\"10\"/><text class=\"n\" x=\"11\" y=\"10\">0</text>")
    (codes "quantum, its processor")
    ++ item_text s end 1 (codes "<path class=\"w\" d=\"M1 1V11H21V1\"/>") (codes "window")
    ++ item_text s end 2 (codes "<path class=\"e\" d=\"M1 11H21\"/>") (codes "may run before it")

-- what is drawn of a missed one
unfoldable pub missed_items : Measures → ℕ → List ℕ
missed_items s end =
    item_text s end 3 (codes "<path class=\"v\" d=\"M1 1V11H21V1\"/>") (codes "missed window")
    ++ item_text s end 4 (codes "<path class=\"o\" d=\"M1 6H21\"/>") (codes "late, until it ran")

-- what each style has of its own
unfoldable pub style_items : Style → Measures → ℕ → List ℕ
style_items Strips s end =
    item_text s end 5 (codes "<path class=\"d\" d=\"M11 3l-3 5h6z\"/>") (codes "group deadline")
    ++ item_text s end 6 (codes "<path class=\"z\" d=\"M1 8H21\"/><path class=\"k\" d=\"M1 8H8V3H14V10H21\"/>") (codes "lag, up where owed")
style_items Stairs s end =
    item_text s end 5 (codes "<path class=\"l\" d=\"M11 0V12\"/><path class=\"d\" d=\"M11 3l-3 5h6z\"/>") (codes "group deadline")
    ++ item_text s end 6 (codes "<rect class=\"b\" x=\"1\" width=\"20\" height=\"12\"/>") (codes "in two windows")

-- what stands still
unfoldable pub stop_items : Measures → ℕ → List ℕ
stop_items s end =
    item_text s end 7 (codes "<rect class=\"s\" x=\"1\" width=\"20\" height=\"12\"/>") (codes "clock stopped")
    ++ item_text s end 8 (codes "<rect class=\"u\" x=\"1\" width=\"20\" height=\"12\"/>") (codes "processor out of use")

-- what befalls a task
unfoldable pub event_items : Measures → ℕ → List ℕ
event_items s end =
    item_text s end 9 (codes "<path class=\"j\" d=\"M8 3l6 3l-6 3z\"/>") (codes "joins")
    ++ item_text s end 10 (codes "<path class=\"j\" d=\"M14 3l-6 3l6 3z\"/>") (codes "left")
    ++ item_text s end 11 (codes "<path class=\"x\" d=\"M8 3l6 6m0-6l-6 6\"/>") (codes "event denied")

-- all of them, below the blocks, and the picture's end
unfoldable pub legend_text : Measures → ℕ → List ℕ
legend_text s end =
    window_items s end ++ missed_items s end ++ style_items s.style s end ++ stop_items s end ++ event_items s end ++ codes "</svg>\n"
