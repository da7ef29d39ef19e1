use Rattle.std.proofs.Common.{◌≡◌, ◌+◌, ◌*◌, ◌≤◌, [], take, length}
use Rattle.pf_order.specs.Counts.{Compares}
use Rattle.pf_heap.specs.Digits.{digits}
use Rattle.pf_engine.specs.Agenda.{IsAgenda}
use Rattle.pf_engine.proofs.saved_engine.SavedEngine.engine.Given as goal

abbrev pub invariant-loop-saved : goal.invariant-loop-saved
invariant-loop-saved l = record {
  tasks : l.tasks.tasks ≡ take l.saved-index l.self.tasks;
  agenda : IsAgenda l.calendar l.self.now l.tasks.tasks [];
  spare : length l.self.tasks ≤ l.tasks.spare + l.saved-index;
  key_spare : length l.self.tasks ≤ l.calendar.spare + l.saved-index;
  comparisons : Compares (l.saved-index * digits (length l.self.tasks)) l.fn.meter l.meter;
}
