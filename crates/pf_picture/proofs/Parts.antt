-- The rows of the processors and the parts of the tasks, one after another.
use Rattle.std.proofs.Common.{◌≡◌, ℕ, suc, ◌+◌, ◌-◌, ◌<◌, ◌≤◌, Option, Some, List, [], ◌∷◌, ◌++◌, drop, length, get_or, sym, ap, ap₂, ◌∙◌, append_assoc, arith}
use Rattle.std.specs.Prelude.{codes}
use Rattle.std.specs.List.{flat_map, range_with_len, slice_get}
use Rattle.std.proofs.Math.Seq.{drop-cons}
use Rattle.std.proofs.lemmas.List.{get_or_default}
use Rattle.std.proofs.lemmas.List.FromFn.{get_or-map-range_with_len}
use Rattle.pf_order.specs.declared.pick.Pick.{Pick}
use Rattle.pf_tally.proofs.Noting.{got_at}
use Rattle.pf_desk.specs.Desk.{Seen}
use Rattle.pf_courses.specs.Listing.{count_in, counts_of}
use Rattle.pf_picture.specs.Drawing.{Drawing}
use Rattle.pf_picture.specs.Picture.{processors_from, rows_text, tasks_from}
use Rattle.pf_picture.specs.Processors.{cell_text, processor_name, processor_text, slot_text}
use Rattle.pf_picture.specs.Rows.{height_of}
use Rattle.pf_picture.specs.Scale.{Measures}
use Rattle.pf_picture.specs.Shapes.{stretch_shape}
use Rattle.pf_picture.specs.Shown.{TaskDrawings}
use Rattle.pf_picture.specs.Task.{name_text, task_text_of}
use Rattle.pf_picture.proofs.Steps.{first_and_others}

-- Use: a slot of a row, by the counts and the row of the slot.
pub slot_is : (seen : Seen) (s : Measures) (drawings : TaskDrawings) (counts : List ℕ) (p t count d : ℕ) (row : List (Option Pick)) → t < length seen.rows → counts ≡ counts_of seen.state.plan seen.state.now seen.rows
    → count ≡ get_or counts t d → Some row ≡ slice_get seen.rows t → cell_text s drawings count row p t ≡ slot_text seen s drawings p t
slot_is seen s drawings counts p t count d row within of_counts of_count of_row =
    ap₂ (λ count row. cell_text s drawings count row p t)
    (of_count ∙ ap (λ cs. get_or cs t d) of_counts ∙ get_or-map-range_with_len (count_in seen.state.plan seen.state.now) 0 (length seen.rows) t t d within (omega arith))
    (sym (get_or_default seen.rows t [] row within ∙ got_at seen.rows t row of_row))

-- Use: the task of this place, and those after it.
pub task_and_others : (drawings : List Drawing) (place : ℕ) (d : Drawing) → place < length drawings →
    drop place drawings ≡ get_or drawings place d ∷ drop (place + 1) drawings
task_and_others drawings place d within =
    drop-cons drawings place d within ∙ ap (λ k. get_or drawings place d ∷ drop k drawings) (let z : suc place ≡ place + 1 = omega arith in z)

module _ (seen : Seen) (s : Measures) (drawings : TaskDrawings) where
  -- Use: the row of a processor has a line.
  pub processor_some : (p : ℕ) (text : List ℕ) → text ≡ processor_text seen s drawings p → 1 ≤ length text
  unfolding processor_text processor_name
  processor_some p text is = omega (arith, ap length is)

  -- Use: the row of one processor, and what is left after it.
  pub processor_next : (p place top : ℕ) → p < s.processors →
      rows_text seen s drawings p place top ≡ processor_text seen s drawings p ++ rows_text seen s drawings (p + 1) place top
  processor_next p place top some =
      ap (λ xs. xs ++ (tasks_from s place top (drop place drawings.shown) ++ codes "</g>\n")) (first_and_others (processor_text seen s drawings) p s.processors some)
      ∙ append_assoc (processor_text seen s drawings p) (processors_from seen s drawings (p + 1)) (tasks_from s place top (drop place drawings.shown) ++ codes "</g>\n")

  -- Use: no processor is left.
  pub processors_over : (p place top : ℕ) → s.processors ≤ p → rows_text seen s drawings p place top ≡ tasks_from s place top (drop place drawings.shown) ++ codes "</g>\n"
  processors_over p place top over =
      ap (λ n. flat_map (processor_text seen s drawings) (range_with_len p n) ++ (tasks_from s place top (drop place drawings.shown) ++ codes "</g>\n")) (let z : s.processors - p ≡ 0 = omega arith in z)

  -- Use: the part of one task, and what is left after it.
  pub task_next : (p place top : ℕ) (drawing : Drawing) → s.processors ≤ p → drop place drawings.shown ≡ drawing ∷ drop (place + 1) drawings.shown →
      rows_text seen s drawings p place top ≡ task_text_of s top place drawing ++ rows_text seen s drawings p (place + 1) (top + height_of s drawing)
  task_next p place top drawing over at =
      processors_over p place top over ∙ ap (λ ds. tasks_from s place top ds ++ codes "</g>\n") at
      ∙ append_assoc (task_text_of s top place drawing) (tasks_from s (place + 1) (top + height_of s drawing) (drop (place + 1) drawings.shown)) (codes "</g>\n")
      ∙ ap (λ xs. task_text_of s top place drawing ++ xs) (sym (processors_over p (place + 1) (top + height_of s drawing) over))

-- Use: the part of a task has a line.
pub task_some : (s : Measures) (top place : ℕ) (drawing : Drawing) (text : List ℕ) → text ≡ task_text_of s top place drawing → 1 ≤ length text
unfolding task_text_of name_text stretch_shape
task_some s top place drawing text is = omega (arith, ap length is)
