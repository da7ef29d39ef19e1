-- The shapes of a task, each a line of the picture.
use Rattle.std.specs.Prelude.{ℕ, List, [], ◌++◌, codes}
use Rattle.std.specs.Fmt.{decimal}
use Rattle.pf_picture.specs.Element.{put, put_word}

-- a line from (x, y) to the right
unfoldable pub stretch_shape : List ℕ → ℕ → ℕ → ℕ → List ℕ
stretch_shape class x y to =
    put_word (codes "<path class=\"") class (put (codes "\" d=\"M") x (put (codes " ") y (put (codes "H") to (codes "\"/>\n"))))

-- a line from (x, y) down
unfoldable pub drop_shape : List ℕ → ℕ → ℕ → ℕ → List ℕ
drop_shape class x y to =
    put_word (codes "<path class=\"") class (put (codes "\" d=\"M") x (put (codes " ") y (put (codes "V") to (codes "\"/>\n"))))

-- strokes from (x, y) on
unfoldable pub mark_shape : List ℕ → ℕ → ℕ → List ℕ → List ℕ
mark_shape class x y strokes =
    put_word (codes "<path class=\"") class (put (codes "\" d=\"M") x (put (codes " ") y (put_word [] strokes (codes "\"/>\n"))))

-- a bracket over `base`, whose ends reach up to `begin` and `end`
unfoldable pub bracket_start : List ℕ → ℕ → ℕ → ℕ → List ℕ
bracket_start class left begin base =
    put_word (codes "<path class=\"") class (put (codes "\" d=\"M") left (put (codes " ") begin (codes "V" ++ decimal base)))

unfoldable pub bracket_end : ℕ → ℕ → List ℕ
bracket_end right end = put (codes "H") right (put (codes "V") end (codes "\"/>\n"))

abbrev pub bracket_shape : List ℕ → ℕ → ℕ → ℕ → ℕ → ℕ → List ℕ
bracket_shape class left right base begin end = bracket_start class left begin base ++ bracket_end right end

-- a field
unfoldable pub field_shape : List ℕ → ℕ → ℕ → ℕ → ℕ → List ℕ
field_shape class x y width height =
    put_word (codes "<rect class=\"") class (put (codes "\" x=\"") x (put (codes "\" y=\"") y
    (put (codes "\" width=\"") width (put (codes "\" height=\"") height (codes "\"/>\n")))))

-- words at the left side
unfoldable pub label_shape : ℕ → List ℕ → List ℕ
label_shape y words = put (codes "<text x=\"8\" y=\"") y (put_word (codes "\">") words (codes "</text>\n"))

-- words in a style, from (x, y) on, or up to there, or in the middle there, as the style has it
unfoldable pub words_shape : List ℕ → ℕ → ℕ → List ℕ → List ℕ
words_shape class x y words =
    put_word (codes "<text class=\"") class (put (codes "\" x=\"") x (put (codes "\" y=\"") y (put_word (codes "\">") words (codes "</text>\n"))))
