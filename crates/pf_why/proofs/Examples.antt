-- The worked examples, computed.
use Rattle.std.proofs.Common.{refl}
use Rattle.pf_window.specs.Window.{release_of, deadline_of, bit_of}
use Rattle.pf_window.specs.Group.{group_of}
use Rattle.pf_order.specs.Priority.{priority_cmp}
use Rattle.pf_scenario.specs.Event.{run_cmp}
use Rattle.pf_scenario.specs.Scenario.{events_of}
use Rattle.pf_run.specs.Record.{done, in_force}
use Rattle.pf_run.specs.Inside.{inside, load_of, count_of, shift_of, member_of, ready}
use Rattle.pf_run.specs.Computed.{course_of}
use Rattle.pf_why.specs.Ranking.{ranking_in}
use Rattle.pf_why.specs.Examples.{WorkedRankings}

pub worked_rankings : WorkedRankings
unfolding release_of deadline_of bit_of group_of priority_cmp run_cmp events_of done in_force inside load_of count_of shift_of member_of ready course_of ranking_in
worked_rankings = record {
  by_bit = refl;
  bit = refl;
  by_group = refl;
  group = refl;
  by_task = refl;
  task = refl;
  point = refl;
}
