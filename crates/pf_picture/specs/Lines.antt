-- What is drawn beside the windows of a task: stops, group deadlines, lag, join and leave, and its denied events.
use Rattle.std.specs.Prelude.{ℕ, ◌+◌, ◌-◌, ◌*◌, ◌/◌, ◌==◌, max, min, ℤ, pos, negsuc, Bool, not, ◌&&◌, nat_le, nat_lt, if◌then◌else◌, List, [], ◌∷◌, ◌++◌, codes, slice_index_or}
use Rattle.std.specs.Fmt.{decimal}
use Rattle.std.specs.Int.{div_ceil}
use Rattle.std.specs.List.{flat_map, range_with_len}
use Rattle.pf_admit.specs.Refusals.{denial_name}
use Rattle.pf_courses.specs.Course.{Track}
use Rattle.pf_courses.specs.declared.window.Window.{Window}
use Rattle.pf_run.specs.declared.denied.Denied.{Denied}
use Rattle.pf_tally.specs.Clock.{Stop}
use Rattle.pf_vocabulary.specs.declared.look.style.Style.{Style}
use Rattle.pf_vocabulary.specs.declared.look.style.Style.TheVariants.{Strips, Stairs}
use Rattle.pf_picture.specs.Element.{put}
use Rattle.pf_picture.specs.Lane.{events_level, first_shown, last_shown, stairs_end, stop_height}
use Rattle.pf_picture.specs.Scale.{Measures, x_of}
use Rattle.pf_picture.specs.Shapes.{drop_shape, field_shape, mark_shape, stretch_shape, words_shape}
use Rattle.pf_picture.specs.declared.lane.Lane.{Lane}

-- a stop of its clock, as far as it is shown
unfoldable pub stop_text : Lane → Stop → List ℕ
stop_text lane stop =
    if nat_lt (max stop.start (first_shown lane)) (min stop.end (last_shown lane))
    then field_shape (codes "s") (x_of lane.scale (max stop.start (first_shown lane))) lane.top
    (lane.scale.cell * (min stop.end (last_shown lane) - max stop.start (first_shown lane))) (stop_height lane.scale.style lane.rows)
    else []

-- the group deadline of a window that overlaps the next one, drawn once for all windows that have it
abbrev pub has_group_mark : Lane → ℕ → Window → Bool
has_group_mark lane last w =
    w.bit == 1 && not (w.group == 0) && not (w.group == last) && nat_lt (first_shown lane) w.group && nat_le w.group (last_shown lane)

-- a triangle under a strip, and over stairs a triangle and a line down through them
unfoldable pub group_in : Style → Lane → ℕ → List ℕ
group_in Strips lane due = mark_shape (codes "d") (x_of lane.scale due) (lane.top + 29) (codes "l-3 5h6z")
group_in Stairs lane due =
    drop_shape (codes "l") (x_of lane.scale due) (lane.top + 13) (stairs_end lane)
    ++ mark_shape (codes "d") (x_of lane.scale due) (lane.top + 8) (codes "l-3 5h6z")

abbrev pub group_text : Lane → ℕ → List ℕ
group_text lane due = group_in lane.scale.style lane due

-- that of this window, where `last` is the one that was drawn before, or 0
unfoldable pub group_if : Lane → ℕ → Window → List ℕ
group_if lane last w = if has_group_mark lane last w then group_text lane w.group else []

-- the last one that is drawn then
abbrev pub last_drawn : Lane → ℕ → Window → ℕ
last_drawn lane last w = if has_group_mark lane last w then w.group else last

abbrev pub groups_text : Lane → ℕ → List Window → List ℕ
groups_text lane last [] = []
groups_text lane last (w ∷ ws) = group_if lane last w ++ groups_text lane (last_drawn lane last w) ws

-- the lag before slot t
abbrev pub lag_at : Track → ℕ → ℤ
lag_at track t = slice_index_or track.lags (t - track.joined) (pos 0)

-- 14 above the middle for as many quanta as the strips are high
abbrev pub lag_level : ℕ → ℕ → ℤ → ℕ
lag_level middle unit (pos v) = middle - 14 * v / unit
lag_level middle unit (negsuc v) = middle + div_ceil (14 * (v + 1)) unit

unfoldable pub lag_y : Lane → Track → ℕ → ℕ
lag_y lane track t = lag_level (lane.top + 50) (track.weight.period * lane.scale.strips) (lag_at track t)

unfoldable pub lag_step : Lane → Track → ℕ → List ℕ
lag_step lane track t = put (codes "H") (x_of lane.scale t) (codes "V" ++ decimal (lag_y lane track t))

-- the lags before the slots after `first`, up to `last`
abbrev pub lag_steps : Lane → Track → ℕ → ℕ → List ℕ
lag_steps lane track first last = flat_map (lag_step lane track) (range_with_len (first + 1) (last - first))

unfoldable pub lag_start : Lane → Track → ℕ → List ℕ
lag_start lane track first = put (codes "<path class=\"k\" d=\"M") (x_of lane.scale first) (codes " " ++ decimal (lag_y lane track first))

unfoldable pub lag_path : Lane → Track → ℕ → ℕ → List ℕ
lag_path lane track first last = lag_start lane track first ++ lag_steps lane track first last ++ codes "\"/>\n"

-- the line of no lag, and the lag
unfoldable pub lag_text : Lane → Track → List ℕ
lag_text lane track =
    if nat_lt (first_shown lane) (last_shown lane)
    then stretch_shape (codes "z") (x_of lane.scale (first_shown lane)) (lane.top + 50) (x_of lane.scale (last_shown lane))
    ++ lag_path lane track (first_shown lane) (last_shown lane)
    else []

unfoldable pub join_text : Lane → List ℕ
join_text lane =
    if nat_le lane.scale.from lane.joined && nat_lt lane.joined lane.scale.to
    then mark_shape (codes "j") (x_of lane.scale lane.joined) (events_level lane.scale.style lane.top) (codes "l6 3l-6 3z") else []

unfoldable pub leave_text : Lane → Bool → List ℕ
leave_text lane left =
    if left && nat_lt lane.scale.from lane.end && nat_le lane.end lane.scale.to
    then mark_shape (codes "j") (x_of lane.scale lane.end) (events_level lane.scale.style lane.top) (codes "l-6 3l6 3z") else []

-- the number and the name of a denied event
unfoldable pub denial_words : Denied → List ℕ
denial_words denied = put (codes "event ") denied.id (codes " " ++ denial_name denied.denial)

-- those of the second half of a block stand before it
abbrev pub denial_text : Bool → ℕ → ℕ → List ℕ → List ℕ
denial_text is_second x y words = if is_second then words_shape (codes "r m") (x - 6) y words else words_shape (codes "r") (x + 6) y words

-- a denied event, where those of its task are drawn at the level v
unfoldable pub denied_at : Bool → ℕ → ℕ → Denied → List ℕ
denied_at is_second v x denied =
    mark_shape (codes "x") (x - 3) v (codes "l6 6m0-6l-6 6") ++ denial_text is_second x (v + 7) (denial_words denied)

unfoldable pub denied_text : Measures → ℕ → Denied → List ℕ
denied_text scale v denied =
    if nat_le scale.from denied.slot && nat_lt denied.slot scale.to
    then denied_at (nat_le (scale.to - scale.from) (2 * (denied.slot - scale.from))) v (x_of scale denied.slot) denied else []
