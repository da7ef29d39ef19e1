-- The worked examples, computed.
use Rattle.std.proofs.Common.{refl}
use Rattle.std.specs.Fmt.{digits}
use Rattle.pf_window.specs.Window.{release_of, deadline_of, bit_of}
use Rattle.pf_window.specs.Group.{group_of}
use Rattle.pf_order.specs.Priority.{priority_cmp}
use Rattle.pf_place.specs.Occupancy.{row_of}
use Rattle.pf_scenario.specs.Event.{run_cmp}
use Rattle.pf_scenario.specs.Scenario.{events_of}
use Rattle.pf_run.specs.Record.{done, in_force}
use Rattle.pf_run.specs.Inside.{inside, load_of, count_of, shift_of, member_of, ready}
use Rattle.pf_run.specs.Computed.{course_of}
use Rattle.pf_run.specs.RunRows.{rows_in}
use Rattle.pf_code.specs.Array.{c_text, header_text}
use Rattle.pf_code.specs.Repetition.{admitted_in, first_load, repetition_with}
use Rattle.pf_code.specs.Tasks.{task_line}
use Rattle.pf_code.specs.Examples.{WorkedArrays}

pub worked_arrays : WorkedArrays
unfolding digits release_of deadline_of bit_of group_of priority_cmp row_of run_cmp events_of done in_force inside load_of count_of shift_of member_of ready course_of rows_in c_text header_text admitted_in first_load repetition_with task_line
worked_arrays = record {
  three_tasks = refl;
  overload = refl;
  none = refl;
}
