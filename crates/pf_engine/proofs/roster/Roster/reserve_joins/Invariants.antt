use Rattle.std.proofs.Common.{◌≡◌, take}
use Rattle.pf_engine.specs.Roll.{AllJoinBelow}
use Rattle.pf_engine.proofs.roster.Roster.reserve_joins.Given as goal

abbrev pub invariant-loop-x : goal.invariant-loop-x
invariant-loop-x l = record {
  tasks : l.self.tasks ≡ l.fn.self.tasks;
  spare : l.self.spare ≡ l.fn.self.spare;
  room : AllJoinBelow l.self.numbers (take l.x-index l.events);
}
