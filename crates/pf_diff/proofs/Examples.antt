-- The worked examples, computed.
use Rattle.std.proofs.Common.{refl}
use Rattle.std.specs.Fmt.{digits}
use Rattle.csv.specs.Writing.{escaped, fields_text, is_blank}
use Rattle.pf_window.specs.Window.{release_of, deadline_of, bit_of}
use Rattle.pf_window.specs.Group.{group_of}
use Rattle.pf_order.specs.Priority.{priority_cmp}
use Rattle.pf_place.specs.Occupancy.{row_of}
use Rattle.pf_scenario.specs.Event.{run_cmp}
use Rattle.pf_scenario.specs.Scenario.{events_of}
use Rattle.pf_run.specs.Record.{done, in_force}
use Rattle.pf_run.specs.Inside.{inside, load_of, count_of, shift_of, member_of, ready}
use Rattle.pf_run.specs.Computed.{course_of}
use Rattle.pf_run.specs.RunRows.{rows_in, denials_in}
use Rattle.pf_tally.specs.Clock.{clock_of}
use Rattle.pf_tally.specs.Lags.{lags_of}
use Rattle.pf_tally.specs.Misses.{miss_cmp, misses_of}
use Rattle.pf_diff.specs.Changes.{changes_of}
use Rattle.pf_diff.specs.Diff.{diff_text_of}
use Rattle.pf_diff.specs.Summary.{summary_text}
use Rattle.pf_diff.specs.Examples.{WorkedDiffs, WorkedSummaries}
use Rattle.pf_tally.specs.Figures.{figures_of}

pub worked_diffs : WorkedDiffs
unfolding digits escaped fields_text is_blank release_of deadline_of bit_of group_of priority_cmp row_of run_cmp events_of done in_force inside load_of count_of shift_of member_of ready course_of rows_in denials_in clock_of lags_of miss_cmp misses_of changes_of diff_text_of
worked_diffs = record {
  gone = refl;
  back = refl;
  same = refl;
  met = refl;
  later = refl;
  denied = refl;
}

pub worked_summaries : WorkedSummaries
unfolding digits escaped fields_text is_blank release_of deadline_of bit_of group_of priority_cmp row_of run_cmp events_of done in_force inside load_of count_of shift_of member_of ready course_of rows_in denials_in clock_of lags_of miss_cmp misses_of changes_of diff_text_of figures_of summary_text
worked_summaries = record {
  same = refl;
  alike = refl;
  capped = refl;
  different = refl;
  longer = refl;
}
