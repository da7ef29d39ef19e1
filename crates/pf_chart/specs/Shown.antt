-- Which of the listed tasks a chart shows.
use Rattle.std.specs.Prelude.{List, filter}
use Rattle.pf_vocabulary.specs.Tasks.Listed.{is_listed}
use Rattle.pf_vocabulary.specs.declared.tasks.task_range.TaskRange.{TaskRange}
use Rattle.pf_courses.specs.Listing.{Listing}

-- those of these ranges
abbrev pub shown_of : List TaskRange → List Listing → List Listing
shown_of tasks listed = filter (λ l. is_listed tasks l.task) listed
