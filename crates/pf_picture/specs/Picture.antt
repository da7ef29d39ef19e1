-- The text of a picture.
use Rattle.std.specs.Prelude.{ℕ, ◌+◌, ◌-◌, ◌*◌, max, min, Option, List, [], ◌∷◌, ◌++◌, codes, drop, length}
use Rattle.std.specs.Fmt.{decimal}
use Rattle.std.specs.List.{flat_map, fold, range_with_len}
use Rattle.pf_vocabulary.specs.declared.names.slot_length.SlotLength.{SlotLength}
use Rattle.pf_vocabulary.specs.declared.names.titles.Titles.{Titles}
use Rattle.pf_vocabulary.specs.declared.tasks.task_range.TaskRange.{TaskRange}
use Rattle.pf_run.specs.Computed.{run_of}
use Rattle.pf_tally.specs.Misses.{misses_of}
use Rattle.pf_desk.specs.Desk.{Seen}
use Rattle.pf_vocabulary.specs.declared.look.look.Look.{Look}
use Rattle.pf_vocabulary.specs.declared.look.style.Style.{Style}
use Rattle.pf_vocabulary.specs.declared.look.style.Style.TheVariants.{Strips, Stairs}
use Rattle.pf_picture.specs.Drawing.{Drawing, drawings_of}
use Rattle.pf_picture.specs.Frame.{front_text}
use Rattle.pf_picture.specs.Grid.{block_front}
use Rattle.pf_picture.specs.Legend.{legend_text}
use Rattle.pf_picture.specs.Processors.{processor_text}
use Rattle.pf_picture.specs.Rows.{block_height, height_of}
use Rattle.pf_picture.specs.Scale.{Measures, block_of, blocks_of, first_top, page_height, step_with, time_in, width_with}
use Rattle.pf_picture.specs.Shown.{TaskDrawings, all_shown, parted}
use Rattle.pf_picture.specs.Strips.{strips_of}
use Rattle.pf_picture.specs.Task.{task_text_of}
use Rattle.pf_picture.specs.declared.summary.Summary.{Summary}

-- the characters of the longest of its words on a line
abbrev pub characters_in : Style → Drawing → ℕ
characters_in Strips drawing = max (length drawing.label) (length drawing.weight)
characters_in Stairs drawing = length drawing.label + 2 + length drawing.weight

-- what stands left of the slots has room for all words
abbrev pub gutter_of : Style → List Drawing → ℕ
gutter_of style drawings = fold (λ most drawing. max most (16 + 6 * characters_in style drawing)) 96 drawings

abbrev pub measures_with : Seen → Option SlotLength → List Drawing → ℕ → ℕ → Look → ℕ → Measures
measures_with seen slot drawings from to look gutter = record {
  from = from;
  to = to;
  cell = look.cell;
  gutter = gutter;
  width = width_with gutter look.cell (min look.wrap (to - from));
  step = step_with look.cell (length (decimal (time_in slot to)));
  processors = seen.state.plan.settings.processors;
  strips = strips_of from to drawings;
  style = look.style;
  slot = slot;
}

-- what the whole picture is measured by
abbrev pub measures_of : Seen → Option SlotLength → List Drawing → ℕ → ℕ → Look → Measures
measures_of seen slot drawings from to look = measures_with seen slot drawings from to look (gutter_of look.style drawings)

-- what its head tells, where so many of so many listed tasks are shown
abbrev pub summary_of : Seen → ℕ → ℕ → ℕ → ℕ → Summary
summary_of seen shown listed from to = record {
  from = from;
  to = to;
  stepped = seen.state.now;
  processors = seen.state.plan.settings.processors;
  base = seen.state.plan.settings.base;
  cap = seen.state.plan.settings.cap;
  shown = shown;
  listed = listed;
  missed = length (misses_of seen.state.plan (run_of seen.state.plan seen.state.now));
  denied = length seen.denials;
}

-- the rows of the processors from p on
abbrev pub processors_from : Seen → Measures → TaskDrawings → ℕ → List ℕ
processors_from seen s drawings p = flat_map (processor_text seen s drawings) (range_with_len p (s.processors - p))

-- the parts of these tasks, of which the first has this place and this top
abbrev pub tasks_from : Measures → ℕ → ℕ → List Drawing → List ℕ
tasks_from s place top [] = []
tasks_from s place top (d ∷ ds) = task_text_of s top place d ++ tasks_from s (place + 1) (top + height_of s d) ds

-- what is left of a block, from a processor and from a task on
abbrev pub rows_text : Seen → Measures → TaskDrawings → ℕ → ℕ → ℕ → List ℕ
rows_text seen s drawings p place top = processors_from seen s drawings p ++ (tasks_from s place top (drop place drawings.shown) ++ codes "</g>\n")

-- a block, which lies so far below the picture's top
abbrev pub block_text : Seen → Measures → TaskDrawings → ℕ → List ℕ
block_text seen s drawings offset =
    block_front s offset (block_height s drawings.shown) ++ rows_text seen s drawings 0 0 (first_top s)

-- these blocks, of so many slots at most, one below the other
abbrev pub blocks_from : Seen → Measures → ℕ → TaskDrawings → ℕ → List ℕ → List ℕ
blocks_from seen s wrap drawings offset [] = []
blocks_from seen s wrap drawings offset (k ∷ ks) =
    block_text seen (block_of s wrap k) drawings offset
    ++ blocks_from seen s wrap drawings (offset + block_height (block_of s wrap k) drawings.shown) ks

-- where they end
abbrev pub end_after : Measures → ℕ → List Drawing → ℕ → List ℕ → ℕ
end_after s wrap drawings offset ks = fold (λ end k. end + block_height (block_of s wrap k) drawings) offset ks

abbrev pub all_blocks : Measures → ℕ → List ℕ
all_blocks s wrap = range_with_len 0 (blocks_of s wrap)

abbrev pub end_of_blocks : Measures → ℕ → List Drawing → ℕ
end_of_blocks s wrap drawings = end_after s wrap drawings 24 (all_blocks s wrap)

abbrev pub text_ended : Seen → ℕ → TaskDrawings → Measures → Summary → ℕ → List ℕ
text_ended seen wrap drawings s sum end =
    front_text s (page_height s end) sum ++ (blocks_from seen s wrap drawings 24 (all_blocks s wrap) ++ legend_text s end)

abbrev pub text_with : Seen → ℕ → TaskDrawings → Measures → Summary → List ℕ
text_with seen wrap drawings s sum = text_ended seen wrap drawings s sum (end_of_blocks s wrap drawings.shown)

-- where so many tasks are listed
abbrev pub text_of : Seen → Option SlotLength → ℕ → ℕ → Look → ℕ → TaskDrawings → List ℕ
text_of seen slot from to look listed drawings =
    text_with seen look.wrap drawings (measures_of seen slot drawings.shown from to look) (summary_of seen (length drawings.shown) listed from to)

abbrev pub whole_text : Seen → Option SlotLength → ℕ → ℕ → Look → List Drawing → List ℕ
whole_text seen slot from to look drawings = text_of seen slot from to look (length drawings) (all_shown drawings)

abbrev pub part_text : Seen → Option SlotLength → List TaskRange → ℕ → ℕ → Look → List Drawing → List ℕ
part_text seen slot tasks from to look drawings = text_of seen slot from to look (length drawings) (parted tasks drawings)

-- the picture of the slots from `from` on and below `to`, in this look, with the names of tasks and the length of a slot
unfoldable pub picture_text_of : Seen → Titles → ℕ → ℕ → Look → List ℕ
picture_text_of seen titles from to look = whole_text seen titles.slot from to look (drawings_of seen titles.names)

-- that picture with the tasks of these ranges alone: their places are those among themselves
unfoldable pub task_picture_text_of : Seen → Titles → List TaskRange → ℕ → ℕ → Look → List ℕ
task_picture_text_of seen titles tasks from to look = part_text seen titles.slot tasks from to look (drawings_of seen titles.names)
