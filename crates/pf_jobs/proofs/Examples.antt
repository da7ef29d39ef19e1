-- The worked examples, computed.
use Rattle.std.proofs.Common.{refl}
use Rattle.std.specs.Fmt.{digits}
use Rattle.csv.specs.Writing.{fields_text, is_blank}
use Rattle.pf_window.specs.Window.{release_of, deadline_of, bit_of}
use Rattle.pf_window.specs.Group.{group_of}
use Rattle.pf_order.specs.Priority.{priority_cmp}
use Rattle.pf_scenario.specs.Event.{run_cmp}
use Rattle.pf_scenario.specs.Scenario.{events_of}
use Rattle.pf_run.specs.Record.{done, in_force}
use Rattle.pf_run.specs.Inside.{inside, load_of, count_of, shift_of, member_of, ready}
use Rattle.pf_run.specs.Computed.{course_of}
use Rattle.pf_jobs.specs.Jobs.{jobs_text}
use Rattle.pf_jobs.specs.Load.{load_text}
use Rattle.pf_jobs.specs.Examples.{WorkedJobs, WorkedLoads}

pub worked_loads : WorkedLoads
unfolding digits release_of deadline_of bit_of group_of priority_cmp run_cmp events_of done in_force inside load_of count_of shift_of member_of ready course_of load_text fields_text is_blank
worked_loads = record {
  whole = refl;
  part = refl;
  none = refl;
}

pub worked_jobs : WorkedJobs
unfolding digits release_of deadline_of bit_of group_of priority_cmp run_cmp events_of done in_force inside load_of count_of shift_of member_of ready course_of jobs_text fields_text is_blank
worked_jobs = record {
  whole = refl;
  late = refl;
}
