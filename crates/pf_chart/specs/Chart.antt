-- The text of a chart.
use Rattle.std.specs.Prelude.{ℕ, ◌+◌, ◌-◌, ◌*◌, ◌%◌, ◌==◌, min, Bool, ◌&&◌, nat_le, if◌then◌else◌, Option, List, [], ◌∷◌, ◌++◌, codes, length, map, position, replicate, slice_index_or}
use Rattle.std.specs.Fmt.{decimal}
use Rattle.std.specs.Int.{div_ceil}
use Rattle.std.specs.List.{flat_map, list_all, list_any, range_with_len, slice_get}
use Rattle.std.specs.Option.{option_map_or, unwrap_or}
use Rattle.pf_order.specs.declared.pick.Pick.{Pick}
use Rattle.pf_place.specs.Occupancy.{sitter}
use Rattle.pf_vocabulary.specs.Names.Slots.{slot_text}
use Rattle.pf_vocabulary.specs.declared.names.slot_length.SlotLength.{SlotLength}
use Rattle.pf_vocabulary.specs.declared.names.titles.Titles.{Titles}
use Rattle.pf_scenario.specs.System.{System}
use Rattle.pf_desk.specs.Desk.{Seen}
use Rattle.pf_courses.specs.Course.{Track}
use Rattle.pf_chart.specs.Cells.{task_cell, window_cell, lag_cell, mark_cell}
use Rattle.pf_courses.specs.Listing.{Listing, listings_of, count_in}
use Rattle.pf_chart.specs.declared.track_row.TrackRow.{TrackRow}
use Rattle.pf_chart.specs.declared.track_row.TrackRow.TheVariants.{Runs, Windows, Lag, Marks}
use Rattle.pf_chart.specs.Labels.{Labels, block_length, labels_of, task_label}
use Rattle.pf_chart.specs.Symbols.{blank, left_out, rank_symbol}
use Rattle.pf_chart.specs.Shown.{shown_of}
use Rattle.pf_vocabulary.specs.declared.tasks.task_range.TaskRange.{TaskRange}

-- a line without the blanks at its end
abbrev pub with_first : ℕ → List ℕ → List ℕ
with_first x [] = if x == blank then [] else x ∷ []
with_first x (y ∷ ys) = x ∷ y ∷ ys

abbrev pub trimmed : List ℕ → List ℕ
trimmed [] = []
trimmed (x ∷ xs) = with_first x (trimmed xs)

-- a line: its label in so many places, then its cells
abbrev pub line_text : ℕ → List ℕ → List ℕ → List ℕ
line_text places label cells = trimmed (label ++ replicate (places - length label) blank ++ cells) ++ codes "\n"

abbrev pub are_blank : List ℕ → Bool
are_blank cells = list_all (λ cell. cell == blank) cells

-- nothing where all cells are blank
abbrev pub line_if_any : ℕ → List ℕ → List ℕ → List ℕ
line_if_any places label cells = if are_blank cells then [] else line_text places label cells

-- the rulers, from slot a on: at each tenth slot its number, and a mark at each slot
abbrev pub number_cell : ℕ → ℕ → ℕ
number_cell a t =
    if nat_le a (t - t % 10) then unwrap_or (slice_get (decimal (t - t % 10)) (t % 10)) blank else blank

abbrev pub tick_cell : ℕ → ℕ
tick_cell t =
    if t % 10 == 0 then slice_index_or (codes "|") 0 0
    else if t % 5 == 0 then slice_index_or (codes ":") 0 0 else slice_index_or (codes ".") 0 0

abbrev pub rulers_text : ℕ → ℕ → List ℕ → List ℕ
rulers_text places a slots = line_text places [] (map (number_cell a) slots) ++ line_text places [] (map tick_cell slots)

-- the symbol of a task by its rank among these, and a dot for one that is none of them
abbrev pub symbol_of : List Listing → ℕ → ℕ
symbol_of listed task = option_map_or (λ i. rank_symbol (i + 1)) (position (λ l. l.task == task) listed) left_out

-- `#` out of use, `-` idle, else the task's symbol
abbrev pub processor_cell : List Listing → ℕ → List (Option Pick) → ℕ → ℕ
processor_cell listed count row p =
    if nat_le count p then slice_index_or (codes "#") 0 0
    else option_map_or (λ pick. symbol_of listed pick.task) (sitter row p) (slice_index_or (codes "-") 0 0)

-- a cell of a task that was admitted
abbrev pub track_cell : (Track → ℕ → ℕ) → Listing → ℕ → ℕ
track_cell cell l t = option_map_or (λ track. cell track t) l.track blank

-- a cell of each of its lines; the mark `x` stands where an event of it is denied, admitted or not
abbrev pub row_cell : TrackRow → Listing → ℕ → ℕ
row_cell Runs l t = track_cell task_cell l t
row_cell Windows l t = track_cell window_cell l t
row_cell Lag l t = track_cell lag_cell l t
row_cell Marks l t = if list_any (λ u. u == t) l.denied then slice_index_or (codes "x") 0 0 else track_cell mark_cell l t

-- the lines with these cells of a listed task of this rank; none where all of them are blank
abbrev pub lines_with : Labels → ℕ → ℕ → List ℕ → List ℕ → List ℕ → List ℕ → List ℕ
lines_with labels rank task run windows lag marks =
    if are_blank run && are_blank windows && are_blank lag && are_blank marks then []
    else line_text labels.places (task_label labels.names rank task) run ++ line_if_any labels.places (codes "  windows") windows
    ++ line_if_any labels.places (codes "  lag") lag ++ line_if_any labels.places (codes "  marks") marks

abbrev pub task_lines : Labels → List ℕ → ℕ → Listing → List ℕ
task_lines labels slots rank l =
    lines_with labels rank l.task (map (row_cell Runs l) slots) (map (row_cell Windows l) slots)
    (map (row_cell Lag l) slots) (map (row_cell Marks l) slots)

-- of the listed tasks, the first of which has this rank
abbrev pub all_task_lines : Labels → List ℕ → ℕ → List Listing → List ℕ
all_task_lines labels slots rank [] = []
all_task_lines labels slots rank (l ∷ ls) = task_lines labels slots rank l ++ all_task_lines labels slots (rank + 1) ls

-- a line for each processor: p, and its number
abbrev pub processor_line : Seen → ℕ → List Listing → List ℕ → ℕ → List ℕ
processor_line seen places listed slots p =
    line_text places (codes "p" ++ decimal p) (map (λ t. processor_cell listed (count_in seen.state.plan seen.state.now t) (slice_index_or seen.rows t []) p) slots)

-- a block: the slots from a on
abbrev pub block_of : Seen → Labels → List Listing → ℕ → List ℕ → List ℕ
block_of seen labels listed a slots =
    codes "\n" ++ rulers_text labels.places a slots
    ++ flat_map (processor_line seen labels.places listed slots) (range_with_len 0 seen.state.plan.settings.processors)
    ++ all_task_lines labels slots 1 listed

-- the block of the slots from a on and below `to`, which are so many at most
abbrev pub block_text : Seen → Labels → List Listing → ℕ → ℕ → ℕ → List ℕ
block_text seen labels listed size to a = block_of seen labels listed a (range_with_len a (min size (to - a)))

-- the range, and the settings
abbrev pub range_text : ℕ → ℕ → ℕ → List ℕ
range_text now from to = codes "slots " ++ decimal from ++ codes " to " ++ decimal to ++ codes " of " ++ decimal now ++ codes "; "

abbrev pub settings_with : ℕ → ℕ → ℕ → List ℕ
settings_with m base cap = codes "processors " ++ decimal m ++ codes "; base " ++ decimal base ++ codes "; cap " ++ decimal cap

abbrev pub settings_text : System → List ℕ
settings_text system = settings_with system.processors system.base system.cap

-- how long a slot is, where that is told
abbrev pub length_text : Option SlotLength → List ℕ
length_text slot = option_map_or (λ length. codes "; slot " ++ slot_text length) slot []

abbrev pub head_with : System → Option SlotLength → ℕ → ℕ → ℕ → List ℕ
head_with system slot now from to = range_text now from to ++ settings_text system ++ length_text slot ++ codes "\n"

abbrev pub head_text : Seen → Option SlotLength → ℕ → ℕ → List ℕ
head_text seen slot from to = head_with seen.state.plan.settings slot seen.state.now from to

-- so many of the listed tasks are shown
abbrev pub count_text : ℕ → ℕ → List ℕ
count_text shown listed = codes "; tasks " ++ decimal shown ++ codes " of " ++ decimal listed

abbrev pub task_head_with : System → Option SlotLength → ℕ → ℕ → ℕ → ℕ → ℕ → List ℕ
task_head_with system slot shown listed now from to =
    range_text now from to ++ settings_text system ++ length_text slot ++ count_text shown listed ++ codes "\n"

abbrev pub task_head_text : Seen → Option SlotLength → ℕ → ℕ → ℕ → ℕ → List ℕ
task_head_text seen slot shown listed from to = task_head_with seen.state.plan.settings slot shown listed seen.state.now from to

-- what the signs of the lines of tasks mean
abbrev pub signs_text : List ℕ
signs_text =
    codes "task: its processor where it runs, . waits, ! waits behind its deadline\n"
    ++ codes "windows: [ first slot, ] last, X last and next first, I only slot\n"
    ++ codes "lag: = none, + - owed or ahead by less than one quantum, 1-9 * owed, a-z ~ ahead\n"
    ++ codes "marks: > joins, < left, ~ clock stopped, ^ runs late, x denied\n"

abbrev pub legend_text : List ℕ
legend_text = codes "\nprocessors: a task by its symbol, - idle, # out of use\n" ++ signs_text

-- where tasks may be left out
abbrev pub task_legend_text : List ℕ
task_legend_text = codes "\nprocessors: a task by its symbol, . one left out, - idle, # out of use\n" ++ signs_text

-- a block for each so many slots from `from` on, below `to`
abbrev pub blocks_by : ℕ → Seen → Labels → List Listing → ℕ → ℕ → List ℕ
blocks_by size seen labels listed from to =
    flat_map (λ k. block_text seen labels listed size to (from + size * k)) (range_with_len 0 (div_ceil (to - from) size))

abbrev pub blocks_text : Seen → Labels → List Listing → ℕ → ℕ → List ℕ
blocks_text seen labels listed from to = blocks_by (block_length labels.places) seen labels listed from to

-- after this head and before this legend, the blocks of these tasks
abbrev pub text_between : Seen → Titles → ℕ → ℕ → List ℕ → List ℕ → List Listing → List ℕ
text_between seen titles from to head legend shown =
    head ++ blocks_text seen (labels_of titles.names shown) shown from to ++ legend

abbrev pub text_with : Seen → Titles → ℕ → ℕ → List Listing → List ℕ
text_with seen titles from to listed = text_between seen titles from to (head_text seen titles.slot from to) legend_text listed

-- where these of the listed tasks are shown
abbrev pub task_text_with : Seen → Titles → ℕ → ℕ → List Listing → List Listing → List ℕ
task_text_with seen titles from to listed shown =
    text_between seen titles from to (task_head_text seen titles.slot (length shown) (length listed) from to) task_legend_text shown

-- the chart of the slots from `from` on and below `to`, with the names of tasks and the length of a slot
unfoldable pub chart_text_of : Seen → Titles → ℕ → ℕ → List ℕ
chart_text_of seen titles from to = text_with seen titles from to (listings_of seen.state.plan seen.state.now seen.rows seen.denials)

-- that chart with the tasks of these ranges alone: their ranks are those among themselves
unfoldable pub task_chart_text_of : Seen → Titles → List TaskRange → ℕ → ℕ → List ℕ
task_chart_text_of seen titles tasks from to = task_text_with seen titles from to (listings_of seen.state.plan seen.state.now seen.rows seen.denials) (shown_of tasks (listings_of seen.state.plan seen.state.now seen.rows seen.denials))
