-- The worked examples of scripts, computed.
use Rattle.std.proofs.Common.{refl}
use Rattle.std.specs.Fmt.{digits}
use Rattle.csv.specs.Machine.{next_record}
use Rattle.csv.specs.Reading.{records_from, strip_bom}
use Rattle.csv.specs.Writing.{escaped, fields_text, is_blank}
use Rattle.pf_window.specs.Window.{release_of, deadline_of, bit_of}
use Rattle.pf_window.specs.Group.{group_of}
use Rattle.pf_order.specs.Priority.{priority_cmp}
use Rattle.pf_place.specs.Occupancy.{row_of}
use Rattle.pf_scenario.specs.Event.{run_cmp}
use Rattle.pf_scenario.specs.Scenario.{events_of}
use Rattle.pf_run.specs.Record.{done, in_force}
use Rattle.pf_run.specs.Inside.{inside, load_of, count_of, shift_of, member_of, ready}
use Rattle.pf_run.specs.Computed.{course_of}
use Rattle.pf_run.specs.RunRows.{rows_in, denials_in}
use Rattle.pf_tally.specs.Clock.{clock_of}
use Rattle.pf_tally.specs.Lags.{lags_of}
use Rattle.pf_tally.specs.Misses.{miss_cmp, misses_of}
use Rattle.pf_report.specs.Tables.{schedule_text, lags_text, misses_text, denials_text}
use Rattle.pf_report.specs.Part.{schedule_part_text}
use Rattle.pf_script.specs.Fields.{is_word}
use Rattle.pf_text.specs.Numbers.{number_of}
use Rattle.pf_script.specs.Parsing.{number_at, number_within, join_at, leave_at, event_at, strike_at, alter_at, change_at, edit_at, steps_at, line_at, settings_at, names_line, opening_at, heading_at, record_at}
use Rattle.pf_script.specs.Places.{lines_from}
use Rattle.pf_script.specs.Told.{readings_from}
use Rattle.pf_report.specs.Replies.{reply_line}
use Rattle.pf_formats.specs.Report.{report_text}
use Rattle.pf_commands.specs.Meaning.{script_meaning}
use Rattle.pf_commands.specs.Examples.{WholeScripts, Ranges, BadScripts, WorkedScripts}

bad : BadScripts
unfolding digits escaped fields_text is_blank next_record records_from strip_bom release_of deadline_of bit_of group_of priority_cmp row_of run_cmp events_of done in_force inside load_of count_of shift_of member_of ready course_of rows_in denials_in number_of is_word number_at number_within join_at leave_at event_at strike_at alter_at change_at edit_at steps_at line_at settings_at names_line opening_at heading_at record_at lines_from readings_from reply_line report_text script_meaning
bad = record {
  third = refl;
  plan_unshown = refl;
  second = refl;
  settings = refl;
  empty = refl;
  refused = refl;
  heading_alone = refl;
  heading_twice = refl;
  limit = refl;
}

whole : WholeScripts
unfolding digits escaped fields_text is_blank next_record records_from strip_bom release_of deadline_of bit_of group_of priority_cmp row_of run_cmp events_of done in_force inside load_of count_of shift_of member_of ready course_of rows_in denials_in clock_of lags_of miss_cmp misses_of schedule_text schedule_part_text lags_text misses_text denials_text number_of is_word number_at number_within join_at leave_at event_at strike_at alter_at change_at edit_at steps_at line_at settings_at names_line opening_at heading_at record_at lines_from readings_from reply_line report_text script_meaning
whole = record { tables = refl; schedule = refl; second_version = refl }

ranges : Ranges
unfolding digits escaped fields_text is_blank next_record records_from strip_bom release_of deadline_of bit_of group_of priority_cmp row_of run_cmp events_of done in_force inside load_of count_of shift_of member_of ready course_of rows_in denials_in schedule_part_text number_of is_word number_at number_within join_at leave_at event_at strike_at alter_at change_at edit_at steps_at line_at settings_at names_line opening_at heading_at record_at lines_from readings_from reply_line report_text script_meaning
ranges = record { one = refl; from = refl; to = refl; empty = refl; beyond = refl; behind = refl; turned = refl; picture = refl; bad = refl }

pub worked_scripts : WorkedScripts
worked_scripts = record { whole = whole; ranges = ranges; bad = bad }
