use Rattle.std.proofs.Common.{◌≡◌, ◌*◌, None, All, Contains, length, take, fold}
use Rattle.pf_engine.specs.Kept.{tasks_after_pick}
use Rattle.pf_order.specs.Counts.{Compares}
use Rattle.pf_heap.specs.Digits.{digits}
use Rattle.pf_engine.specs.Fits.{KeptTask}
use Rattle.pf_engine.specs.Kept.{member_in}
use Rattle.pf_engine.specs.Engines.{IsInside}
use Rattle.pf_engine.specs.Taking.{AreBeingRun}
use Rattle.pf_engine.proofs.NextKeys.{Differ}
use Rattle.pf_engine.proofs.agenda.run.Given as goal

abbrev pub invariant-loop-pick : goal.invariant-loop-pick
invariant-loop-pick l = record {
  tasks : l.tasks.tasks ≡ fold tasks_after_pick l.fn.tasks.tasks (take l.pick-index l.picks);
  run : AreBeingRun l.slot l.fn.tasks.tasks l.picks l.pick-index l.tasks.tasks l.calendar;
  members : All IsInside l.tasks.tasks;
  differ : Differ (Contains l.tasks.tasks);
  stay : (k : KeptTask) → Contains l.fn.tasks.tasks k → member_in l.tasks.tasks k.task ≡ None → ⊥;
  many : length l.tasks.tasks ≡ length l.fn.tasks.tasks;
  comparisons : Compares (l.pick-index * digits (length l.fn.tasks.tasks)) l.fn.meter l.meter;
}
