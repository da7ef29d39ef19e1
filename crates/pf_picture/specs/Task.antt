-- The part of a task.
use Rattle.std.specs.Prelude.{ℕ, ◌+◌, ◌-◌, ◌&&◌, nat_le, if◌then◌else◌, None, List, [], ◌++◌, codes}
use Rattle.std.specs.Fmt.{signed_decimal}
use Rattle.std.specs.List.{flat_map}
use Rattle.std.specs.Option.{option_map_or}
use Rattle.pf_courses.specs.Course.{Track}
use Rattle.pf_vocabulary.specs.declared.look.style.Style.{Style}
use Rattle.pf_vocabulary.specs.declared.look.style.Style.TheVariants.{Strips, Stairs}
use Rattle.pf_picture.specs.Brackets.{window_text}
use Rattle.pf_picture.specs.Drawing.{Drawing}
use Rattle.pf_picture.specs.Element.{put_word}
use Rattle.pf_picture.specs.Lane.{events_level, first_row, lane_of}
use Rattle.pf_picture.specs.Lines.{denied_text, groups_text, join_text, lag_at, lag_text, leave_text, stop_text}
use Rattle.pf_picture.specs.Rows.{row_count, rows_of}
use Rattle.pf_picture.specs.Scale.{Measures}
use Rattle.pf_picture.specs.Shapes.{label_shape, stretch_shape}
use Rattle.pf_picture.specs.Stairs.{row_texts, shared_texts}
use Rattle.pf_picture.specs.declared.lane.Lane.{Lane}

-- what it is called and its weight, in stairs on one line
unfoldable pub both_words : Drawing → List ℕ
both_words drawing = put_word [] drawing.label (codes ", " ++ drawing.weight)

unfoldable pub words_in : Style → ℕ → Drawing → List ℕ
words_in Strips top drawing = label_shape (top + 12) drawing.label ++ label_shape (top + 26) drawing.weight
words_in Stairs top drawing = label_shape (top + 12) (both_words drawing)

-- a line over it, and its words
unfoldable pub name_text : Measures → ℕ → Drawing → List ℕ
name_text scale top drawing = stretch_shape (codes "h") 0 (top - 4) scale.width ++ words_in scale.style top drawing

-- its lag after the slots of the block
unfoldable pub lag_label : Lane → Track → List ℕ
lag_label lane track =
    if nat_le track.joined lane.scale.to && nat_le lane.scale.to track.end
    then label_shape (lane.top + 54) (codes "lag " ++ signed_decimal (lag_at track lane.scale.to)) else []

-- its windows over a strip of its lag
unfoldable pub strip_text : Lane → List ℕ → Track → List ℕ
strip_text lane label track =
    lag_label lane track ++ flat_map (stop_text lane) track.stops ++ flat_map (window_text lane label) track.windows
    ++ groups_text lane 0 track.windows ++ lag_text lane track

-- its windows one below the other
unfoldable pub stairs_text : Lane → List ℕ → Track → List ℕ
stairs_text lane label track =
    flat_map (stop_text lane) track.stops ++ shared_texts lane (first_row lane - 14) None (rows_of lane.scale track)
    ++ groups_text lane 0 track.windows ++ row_texts lane label (first_row lane) (rows_of lane.scale track)

unfoldable pub windows_in : Style → Lane → List ℕ → Track → List ℕ
windows_in Strips lane label track = strip_text lane label track
windows_in Stairs lane label track = stairs_text lane label track

-- what is drawn of its course
unfoldable pub course_text : Lane → List ℕ → Track → List ℕ
course_text lane label track = windows_in lane.scale.style lane label track ++ join_text lane ++ leave_text lane track.left

abbrev pub lane_in : Measures → ℕ → ℕ → Drawing → Track → Lane
lane_in scale top place drawing track = lane_of scale top place (row_count scale track) drawing.early track

unfoldable pub admitted_text : Measures → ℕ → ℕ → Drawing → List ℕ
admitted_text scale top place drawing =
    option_map_or (λ track. course_text (lane_in scale top place drawing track) drawing.label track) drawing.listing.track []

-- the part of the task of this place among those shown, from `top` on
unfoldable pub task_text_of : Measures → ℕ → ℕ → Drawing → List ℕ
task_text_of scale top place drawing =
    name_text scale top drawing ++ admitted_text scale top place drawing
    ++ flat_map (denied_text scale (events_level scale.style top)) drawing.denied
