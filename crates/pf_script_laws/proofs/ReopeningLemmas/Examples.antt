-- The worked example, computed.
use Rattle.std.proofs.Common.{refl}
use Rattle.pf_window.specs.Window.{release_of, deadline_of, bit_of}
use Rattle.pf_window.specs.Group.{group_of}
use Rattle.pf_order.specs.Priority.{priority_cmp}
use Rattle.pf_scenario.specs.Event.{run_cmp}
use Rattle.pf_scenario.specs.Scenario.{events_of}
use Rattle.pf_run.specs.Record.{done, in_force}
use Rattle.pf_run.specs.Inside.{inside, load_of, count_of, shift_of, member_of, ready}
use Rattle.pf_run.specs.Computed.{course_of}
use Rattle.pf_run.specs.RunRows.{rows_in, denials_in}
use Rattle.pf_place.specs.Occupancy.{row_of}
use Rattle.pf_tally.specs.Clock.{clock_of}
use Rattle.pf_tally.specs.Lags.{lags_of}
use Rattle.pf_tally.specs.Misses.{miss_cmp, misses_of}
use Rattle.pf_script_laws.specs.Reopening.Examples.{WorkedRenumbering}

pub worked_renumbering : WorkedRenumbering
unfolding run_cmp events_of release_of deadline_of bit_of group_of priority_cmp done in_force inside load_of count_of shift_of member_of ready course_of clock_of lags_of miss_cmp misses_of row_of rows_in denials_in
worked_renumbering = record {
  held = refl;
  rows = refl;
  denials = refl;
  held_anew = refl;
  rows_anew = refl;
  denials_anew = refl;
  same = record { rows = refl; denials = refl; lags = refl; misses = refl };
}
