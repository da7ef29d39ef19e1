-- The worked examples, computed.
use Rattle.std.proofs.Common.{refl}
use Rattle.std.specs.Fmt.{digits}
use Rattle.csv.specs.Writing.{escaped, fields_text, is_blank}
use Rattle.serde_json.proofs.OnLiterals.{serde_json_on_literals}
use Rattle.pf_window.specs.Window.{release_of, deadline_of, bit_of}
use Rattle.pf_window.specs.Group.{group_of}
use Rattle.pf_order.specs.Priority.{priority_cmp}
use Rattle.pf_place.specs.Occupancy.{row_of}
use Rattle.pf_scenario.specs.Event.{run_cmp}
use Rattle.pf_scenario.specs.Scenario.{events_of}
use Rattle.pf_run.specs.Record.{done, in_force}
use Rattle.pf_run.specs.Inside.{inside, load_of, count_of, shift_of, member_of, ready}
use Rattle.pf_run.specs.Computed.{course_of}
use Rattle.pf_run.specs.RunRows.{rows_in, denials_in}
use Rattle.pf_tally.specs.Clock.{clock_of}
use Rattle.pf_tally.specs.Lags.{lags_of}
use Rattle.pf_tally.specs.Misses.{miss_cmp, misses_of}
use Rattle.pf_report.specs.Tables.{schedule_text, lags_text, misses_text, denials_text}
use Rattle.pf_report.specs.Json.{report_data}
use Rattle.pf_report.specs.Part.{schedule_part_text}
use Rattle.pf_report.specs.Script.{script_text_of}
use Rattle.pf_report.specs.Examples.{WorkedReports}

pub worked_reports : WorkedReports
unfolding digits escaped fields_text is_blank serde_json_on_literals release_of deadline_of bit_of group_of priority_cmp row_of run_cmp events_of done in_force inside load_of count_of shift_of member_of ready course_of rows_in denials_in clock_of lags_of miss_cmp misses_of schedule_text lags_text misses_text denials_text schedule_part_text script_text_of report_data
worked_reports = record {
  schedule = refl;
  part = refl;
  whole = refl;
  none = refl;
  lags = refl;
  json = refl;
  idle = refl;
  idle_json = refl;
  no_miss = refl;
  no_denial = refl;
  ahead = refl;
  ahead_json = refl;
  late = refl;
  late_json = refl;
  denied_delay = refl;
  denied_leave = refl;
  denied_both = refl;
  denied_json = refl;
  script = refl;
  wide_script = refl;
  struck_script = refl;
}
