-- The tasks of a list in slots of a quantum.
use Rattle.std.specs.Prelude.{Result, Ok, Err, List, [], ◌∷◌}
use Rattle.std.specs.List.{flat_map}
use Rattle.pf_convert.specs.declared.plan_fault.PlanFault.{PlanFault}
use Rattle.pf_convert.specs.declared.plan_fault.PlanFault.TheVariants.{Task}
use Rattle.pf_convert.specs.declared.quantum.Quantum.{Quantum}
use Rattle.pf_convert.specs.declared.slot_fault.SlotFault.{SlotFault}
use Rattle.pf_convert.specs.declared.slotted.Slotted.{Slotted}
use Rattle.pf_convert.specs.declared.words.arrivals.Arrivals.{Arrivals}
use Rattle.pf_convert.specs.Slots.{slots_or_fault}
use Rattle.pf_convert.specs.declared.list.listed.Listed.{Listed}

-- the task in slots, or its fault
abbrev pub slots_given : Result Slotted SlotFault → List Slotted
slots_given (Ok slots) = slots ∷ []
slots_given (Err fault) = []

abbrev pub fault_of : Listed → Result Slotted SlotFault → List PlanFault
fault_of task (Ok slots) = []
fault_of task (Err fault) = Task task.line task.times fault ∷ []

-- the tasks that have slots, in them
abbrev pub slots_in : Quantum → Arrivals → List Listed → List Slotted
slots_in q arrivals tasks = flat_map (λ task. slots_given (slots_or_fault q arrivals task.times)) tasks

-- the faults of those that have none
abbrev pub slot_faults : Quantum → Arrivals → List Listed → List PlanFault
slot_faults q arrivals tasks = flat_map (λ task. fault_of task (slots_or_fault q arrivals task.times)) tasks
