-- The worked examples, computed.
use Rattle.std.proofs.Common.{refl}
use Rattle.std.specs.Fmt.{digits}
use Rattle.pf_window.specs.Window.{release_of, deadline_of, bit_of}
use Rattle.pf_window.specs.Group.{group_of}
use Rattle.pf_order.specs.Priority.{priority_cmp}
use Rattle.pf_place.specs.Occupancy.{row_of}
use Rattle.pf_scenario.specs.Event.{run_cmp}
use Rattle.pf_scenario.specs.Scenario.{events_of}
use Rattle.pf_run.specs.Record.{done, in_force}
use Rattle.pf_run.specs.Inside.{inside, load_of, count_of, shift_of, member_of, ready}
use Rattle.pf_run.specs.Computed.{course_of}
use Rattle.pf_run.specs.RunRows.{rows_in, denials_in}
use Rattle.pf_tally.specs.Clock.{clock_of}
use Rattle.pf_tally.specs.Figures.{figures_of}
use Rattle.pf_tally.specs.Misses.{miss_cmp}
use Rattle.pf_tally.specs.Load.{overload_of}
use Rattle.pf_vocabulary.specs.Names.Titled.{number_label}
use Rattle.pf_text.specs.Columns.Columns.{width_of, padded_from, without_end_blanks, row_line}
use Rattle.pf_text.specs.Columns.Decimals.{last_digits, with_places}
use Rattle.pf_verdict.specs.Grow.{least_left, grow_of}
use Rattle.pf_verdict.specs.Strain.{tightest_of, first_above, above_of}
use Rattle.pf_fit_text.specs.Cells.{response_cell, time_cell, lag_cell, rate_cell, grow_cell}
use Rattle.pf_fit_text.specs.Examples.{WorkedFits}
use Rattle.pf_fit_text.specs.Json.{fit_json, length_json, level_json, overload_json, overloaded_json, free_json, slot_json, task_json, tasks_from, tightest_json, truth, worst_json, worst_object}
use Rattle.pf_fit_text.specs.Lines.{above_line, counts_first, counts_line, free_text, joins_line, late_end, late_line, level_text, run_line, settings_line, slot_text, top_lines}
use Rattle.pf_fit_text.specs.Text.{fit_text, front_text, table_text}
use Rattle.pf_fit_text.specs.WorstLine.{lag_text, moves_text, response_text, worst_line}

pub worked_fits : WorkedFits
unfolding digits release_of deadline_of bit_of group_of priority_cmp row_of run_cmp events_of done in_force inside load_of count_of shift_of member_of ready course_of rows_in denials_in clock_of figures_of miss_cmp overload_of number_label width_of padded_from without_end_blanks row_line last_digits with_places least_left grow_of tightest_of first_above above_of response_cell time_cell lag_cell rate_cell grow_cell fit_json length_json level_json overload_json overloaded_json free_json slot_json task_json tasks_from tightest_json truth worst_json worst_object above_line counts_first counts_line free_text joins_line late_end late_line level_text run_line settings_line slot_text top_lines fit_text front_text table_text lag_text moves_text response_text worst_line
worked_fits = record {
  limits = refl;
  limits_json = refl;
  early = refl;
  none = refl;
  denied = refl;
}
