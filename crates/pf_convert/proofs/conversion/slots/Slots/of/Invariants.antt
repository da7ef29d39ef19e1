use Rattle.std.proofs.Common.{◌≡◌, ◌≤◌, take, length}
use Rattle.std.specs.Prelude.{All}
use Rattle.pf_convert.specs.Slots.{IsSlotted}
use Rattle.pf_convert.specs.Conversion.Slots.{slot_faults, slots_in}
use Rattle.pf_convert.proofs.conversion.slots.Slots.of.Given as goal

abbrev pub invariant-loop-task : goal.invariant-loop-task
invariant-loop-task l = record {
  tasks : l.slots.tasks.items ≡ slots_in l.quantum l.arrivals (take l.task-index l.tasks);
  faults : l.slots.faults.items ≡ slot_faults l.quantum l.arrivals (take l.task-index l.tasks);
  slotted : All IsSlotted l.slots.tasks.items;
  few : length l.slots.tasks.items ≤ l.task-index;
}
