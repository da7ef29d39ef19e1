-- The worked examples, computed.
use Rattle.std.proofs.Common.{refl}
use Rattle.std.specs.Fmt.{digits}
use Rattle.csv.specs.Machine.{next_record}
use Rattle.csv.specs.Reading.{records_from, strip_bom}
use Rattle.csv.specs.Writing.{escaped, fields_text, is_blank}
use Rattle.pf_window.specs.Window.{release_of, deadline_of, bit_of}
use Rattle.pf_window.specs.Group.{group_of}
use Rattle.pf_order.specs.Priority.{priority_cmp}
use Rattle.pf_place.specs.Occupancy.{row_of}
use Rattle.pf_scenario.specs.Event.{run_cmp}
use Rattle.pf_scenario.specs.Scenario.{events_of}
use Rattle.pf_run.specs.Record.{done, in_force}
use Rattle.pf_run.specs.Inside.{inside, load_of, count_of, shift_of, member_of, ready}
use Rattle.pf_run.specs.Computed.{course_of}
use Rattle.pf_run.specs.RunRows.{rows_in, denials_in}
use Rattle.pf_tally.specs.Clock.{clock_of}
use Rattle.pf_tally.specs.Figures.{figures_of}
use Rattle.pf_tally.specs.Lags.{lags_of}
use Rattle.pf_tally.specs.Misses.{miss_cmp, misses_of}
use Rattle.pf_diff.specs.Changes.{changes_of}
use Rattle.pf_diff.specs.Diff.{diff_text_of}
use Rattle.pf_diff.specs.Summary.{summary_text}
use Rattle.pf_script.specs.Fields.{is_word}
use Rattle.pf_text.specs.Numbers.{number_of}
use Rattle.pf_script.specs.Parsing.{number_at, number_within, join_at, leave_at, event_at, strike_at, alter_at, change_at, edit_at, steps_at, line_at, settings_at, names_line, opening_at, heading_at, record_at}
use Rattle.pf_script.specs.Places.{lines_from}
use Rattle.pf_script.specs.Told.{readings_from}
use Rattle.pf_change.specs.Change.{change_meaning}
use Rattle.pf_change.specs.Examples.{WorkedChanges}

pub worked_changes : WorkedChanges
unfolding digits escaped fields_text is_blank next_record records_from strip_bom release_of deadline_of bit_of group_of priority_cmp row_of run_cmp events_of done in_force inside load_of count_of shift_of member_of ready course_of rows_in denials_in clock_of lags_of miss_cmp misses_of figures_of changes_of diff_text_of summary_text number_of is_word number_at number_within join_at leave_at event_at strike_at alter_at change_at edit_at steps_at line_at settings_at names_line opening_at heading_at record_at lines_from readings_from change_meaning
worked_changes = record {
  last = refl;
  sixth = refl;
  fifth = refl;
  first = refl;
  none = refl;
  seventh = refl;
  headed = refl;
  alone = refl;
  bad = refl;
  empty = refl;
  summed = refl;
  differs = refl;
  alike = refl;
}
