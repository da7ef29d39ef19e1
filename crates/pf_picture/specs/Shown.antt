-- What a picture tells of the listed tasks: of those that it shows, and of the others.
use Rattle.std.specs.Prelude.{not, List, [], filter}
use Rattle.pf_vocabulary.specs.Tasks.Listed.{is_listed}
use Rattle.pf_vocabulary.specs.declared.tasks.task_range.TaskRange.{TaskRange}
use Rattle.pf_picture.specs.Drawing.{Drawing}

-- the others have boxes in the rows of the processors alone
pub record TaskDrawings : Type 0 where
  pub shown : List Drawing
  pub others : List Drawing

abbrev pub all_shown : List Drawing → TaskDrawings
all_shown drawings = record { shown = drawings; others = [] }

-- where the tasks of these ranges are shown
abbrev pub parted : List TaskRange → List Drawing → TaskDrawings
parted tasks drawings = record {
  shown = filter (λ d. is_listed tasks d.listing.task) drawings;
  others = filter (λ d. not (is_listed tasks d.listing.task)) drawings;
}
