use Rattle.std.proofs.Common.{◌≡◌, ◌≤◌, take}
use Rattle.pf_engine.specs.Roll.{AllJoinBelow}
use Rattle.pf_engine.proofs.agenda.reserve_joins.Given as goal

abbrev pub invariant-loop-x : goal.invariant-loop-x
invariant-loop-x l = record {
  ready : l.calendar.ready ≡ l.fn.calendar.ready;
  waiting : l.calendar.waiting ≡ l.fn.calendar.waiting;
  spare : l.calendar.spare ≡ l.fn.calendar.spare;
  grows : l.fn.calendar.tasks ≤ l.calendar.tasks;
  room : AllJoinBelow l.calendar.tasks (take l.x-index l.events);
}
