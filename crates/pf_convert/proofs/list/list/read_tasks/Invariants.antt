use Rattle.std.proofs.Common.{◌≡◌, ◌≤◌, length}
use Rattle.pf_convert.specs.List.List.{tasks_told}
use Rattle.pf_convert.proofs.list.list.read_tasks.Given as goal

abbrev pub invariant-loop-count : goal.invariant-loop-count
invariant-loop-count l = record {
  told : tasks_told l.head l.count l.list l.rows.end l.rows.rows ≡ tasks_told l.head 0 l.initial.list l.initial.rows.end l.initial.rows.rows;
  few : length l.list.tasks ≤ l.count;
}
