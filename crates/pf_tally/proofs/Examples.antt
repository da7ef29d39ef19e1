-- The worked examples, computed.
use Rattle.std.proofs.Common.{refl}
use Rattle.pf_window.specs.Window.{release_of, deadline_of, bit_of}
use Rattle.pf_window.specs.Group.{group_of}
use Rattle.pf_order.specs.Priority.{priority_cmp}
use Rattle.pf_scenario.specs.Event.{run_cmp}
use Rattle.pf_scenario.specs.Scenario.{events_of}
use Rattle.pf_run.specs.Record.{done, in_force}
use Rattle.pf_run.specs.Inside.{inside, load_of, count_of, shift_of, member_of, ready}
use Rattle.pf_run.specs.Computed.{course_of}
use Rattle.pf_tally.specs.Clock.{clock_of}
use Rattle.pf_tally.specs.Lags.{lags_of}
use Rattle.pf_tally.specs.Misses.{miss_cmp, misses_of}
use Rattle.pf_place.specs.Occupancy.{row_of}
use Rattle.pf_run.specs.RunRows.{rows_in}
use Rattle.pf_tally.specs.Examples.{WorkedTallies}
use Rattle.pf_tally.specs.Figures.{figures_of}
use Rattle.pf_tally.specs.Told.{WorkedFigures}

pub worked_tallies : WorkedTallies
unfolding run_cmp events_of release_of deadline_of bit_of group_of priority_cmp done in_force inside load_of count_of shift_of member_of ready course_of clock_of lags_of miss_cmp misses_of
worked_tallies = record {
  overload = record { of_lags = refl; of_misses = refl };
  early = record { of_lags = refl; of_misses = refl };
  early_later = record { of_lags = refl; of_misses = refl };
  delay = record { of_lags = refl; of_misses = refl };
  early_delay = record { of_lags = refl; of_misses = refl };
  stop_after = record { of_lags = refl; of_misses = refl };
  stop_in_part = record { of_lags = refl; of_misses = refl };
  denied_delay = record { of_lags = refl; of_misses = refl };
  leave_denied = record { of_lags = refl; of_misses = refl };
  leave_in_time = record { of_lags = refl; of_misses = refl };
  never_ran = record { of_lags = refl; of_misses = refl };
  one_left = record { of_lags = refl; of_misses = refl };
}

pub worked_figures : WorkedFigures
unfolding run_cmp events_of release_of deadline_of bit_of group_of priority_cmp done in_force inside load_of count_of shift_of member_of ready course_of clock_of miss_cmp row_of rows_in figures_of
worked_figures = record { three_tasks = refl; overload = refl; early = refl; delay = refl; missed = refl; left = refl }
