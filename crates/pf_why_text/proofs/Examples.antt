-- The worked examples, computed.
use Rattle.std.proofs.Common.{refl}
use Rattle.std.specs.Fmt.{digits}
use Rattle.pf_window.specs.Window.{release_of, deadline_of, bit_of}
use Rattle.pf_window.specs.Group.{group_of}
use Rattle.pf_order.specs.Priority.{priority_cmp}
use Rattle.pf_place.specs.Occupancy.{row_of}
use Rattle.pf_scenario.specs.Event.{run_cmp}
use Rattle.pf_scenario.specs.Scenario.{events_of}
use Rattle.pf_run.specs.Record.{done, in_force}
use Rattle.pf_run.specs.Inside.{inside, load_of, count_of, shift_of, member_of, ready}
use Rattle.pf_run.specs.Computed.{course_of}
use Rattle.pf_run.specs.RunRows.{rows_in, denials_in}
use Rattle.pf_text.specs.Columns.Columns.{padded_from, row_line, width_of, without_end_blanks}
use Rattle.pf_why.specs.Ranking.{ranking_in}
use Rattle.pf_why_text.specs.Slot.{why_text}
use Rattle.pf_why_text.specs.Examples.{WorkedSlots}

pub worked_slots : WorkedSlots
unfolding digits release_of deadline_of bit_of group_of priority_cmp row_of run_cmp events_of done in_force inside load_of count_of shift_of member_of ready course_of rows_in denials_in padded_from row_line width_of without_end_blanks ranking_in why_text
worked_slots = record {
  group = refl;
  limited = refl;
  denied = refl;
  ranked = refl;
  nobody = refl;
}
