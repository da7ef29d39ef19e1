-- The worked examples, computed.
use Rattle.std.proofs.Common.{refl}
use Rattle.std.specs.Fmt.{digits}
use Rattle.pf_window.specs.Window.{release_of, deadline_of, bit_of}
use Rattle.pf_window.specs.Group.{group_of}
use Rattle.pf_order.specs.Priority.{priority_cmp}
use Rattle.pf_place.specs.Occupancy.{row_of}
use Rattle.pf_scenario.specs.Event.{run_cmp}
use Rattle.pf_scenario.specs.Scenario.{events_of}
use Rattle.pf_run.specs.Record.{done, in_force}
use Rattle.pf_run.specs.Inside.{inside, load_of, count_of, shift_of, member_of, ready}
use Rattle.pf_run.specs.Computed.{course_of}
use Rattle.pf_run.specs.RunRows.{rows_in, denials_in}
use Rattle.pf_vocabulary.specs.Names.Titled.{number_label}
use Rattle.pf_tally.specs.Clock.{clock_of}
use Rattle.pf_courses.specs.Course.{tracks_of}
use Rattle.pf_courses.specs.Listing.{listings_of}
use Rattle.pf_chart.specs.Chart.{chart_text_of, task_chart_text_of}
use Rattle.pf_chart.specs.Examples.{WorkedCharts}

pub worked_charts : WorkedCharts
unfolding digits number_label release_of deadline_of bit_of group_of priority_cmp row_of run_cmp events_of done in_force inside load_of count_of shift_of member_of ready course_of rows_in denials_in clock_of tracks_of listings_of chart_text_of task_chart_text_of
worked_charts = record {
  three_tasks = refl;
  delay = refl;
  over_capacity = refl;
  leave_first = refl;
  late_delay = refl;
  overload = refl;
  out_of_use = refl;
  from_six = refl;
  second_alone = refl;
}
