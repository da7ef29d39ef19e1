-- What is told of the faults of a plan.
use Rattle.std.specs.Prelude.{ℕ, true, Option, None, Some, List, [], ◌∷◌, ◌++◌, map, codes}
use Rattle.std.specs.Fmt.{decimal}
use Rattle.pf_message.specs.Positions.{field_position}
use Rattle.pf_message.specs.declared.position.Position.{Position}
use Rattle.pf_scenario.specs.declared.limits.TheConstants.{MOST_EARLY}
use Rattle.pf_scenario.specs.declared.settings.TheConstants.{WIDE_HORIZON}
use Rattle.pf_vocabulary.specs.declared.names.unit.Unit.{Unit}
use Rattle.pf_convert.specs.declared.conversion.list_file.ListFile.{ListFile}
use Rattle.pf_convert.specs.declared.list.column.Column.{Column}
use Rattle.pf_convert.specs.declared.list.column.Column.TheVariants.{Work, Every, Deadline, First, Early}
use Rattle.pf_convert.specs.declared.list.heading.Heading.{Heading}
use Rattle.pf_convert.specs.declared.list.place.Place.{Place}
use Rattle.pf_convert.specs.declared.list.place.Place.TheVariants.{File, Start, Field, End}
use Rattle.pf_convert.specs.declared.plan_fault.PlanFault.{PlanFault}
use Rattle.pf_convert.specs.declared.plan_fault.PlanFault.TheVariants.{Task, NoBase}
use Rattle.pf_convert.specs.declared.slot_fault.SlotFault.{SlotFault}
use Rattle.pf_convert.specs.declared.slot_fault.SlotFault.TheVariants.{DueTooSoon, CostAbovePeriod, JoinBeyondHorizon, TooEarly, BeforeArrival}
use Rattle.pf_convert.specs.declared.timed.Timed.{Timed}
use Rattle.pf_convert.specs.declared.words.arrivals.Arrivals.{Arrivals}
use Rattle.pf_convert.specs.declared.words.arrivals.Arrivals.TheVariants.{Aligned, Any}
use Rattle.pf_convert.specs.List.Heading.{column_word, number_of}
use Rattle.pf_convert.specs.List.Messages.{Told}
use Rattle.pf_convert.specs.List.Parts.{joined}
use Rattle.pf_convert.specs.List.Times.{time_text}
use Rattle.pf_convert.specs.Slots.{due_of}

-- the column of what a job is due after
abbrev pub due_column : Option ℕ → Column
due_column None = Every
due_column (Some deadline) = Deadline

-- the column at fault
abbrev pub column_of : Timed → SlotFault → Column
column_of t DueTooSoon = due_column t.deadline
column_of t (CostAbovePeriod cost period) = Work
column_of t (JoinBeyondHorizon join) = First
column_of t (TooEarly early) = Early
column_of t BeforeArrival = Early

-- the time that a job is due after has no slot, or none but that in which it arrives
abbrev pub below_words : Arrivals → List ℕ
below_words Aligned = codes " is below the quantum "
below_words Any = codes " is below 2 quanta of "

-- a number is above its limit
abbrev pub excess_text : List ℕ → ℕ → List ℕ → ℕ → List ℕ
excess_text before number above limit = joined (before ∷ decimal number ∷ above ∷ decimal limit ∷ [])

-- why a task has no slots of this quantum
abbrev pub slot_reason : Unit → Arrivals → ℕ → Timed → SlotFault → List ℕ
slot_reason unit arrivals quantum t DueTooSoon = joined (time_text unit (due_of t) ∷ below_words arrivals ∷ time_text unit quantum ∷ [])
slot_reason unit arrivals quantum t (CostAbovePeriod cost period) = excess_text [] cost (codes " quanta are above the period of ") period
slot_reason unit arrivals quantum t (JoinBeyondHorizon join) = excess_text (codes "slot ") join (codes " is not below the horizon ") WIDE_HORIZON
slot_reason unit arrivals quantum t (TooEarly early) = excess_text [] early (codes " slots are above ") MOST_EARLY
slot_reason unit arrivals quantum t BeforeArrival = codes "a quantum would run before its job arrives, with --arrivals any it is below a quantum"

-- a fault, without its place
abbrev pub fault_words : Unit → Arrivals → ℕ → PlanFault → List ℕ
fault_words unit arrivals quantum (Task line t fault) = joined (column_word (column_of t fault) ∷ codes ": " ∷ []) ++ slot_reason unit arrivals quantum t fault
fault_words unit arrivals quantum NoBase = codes "no base up to 1073741824 holds all tasks"

-- where the field of a column is, in the record that begins on a line
abbrev pub column_place : Heading → ℕ → Column → Place
column_place h line column = Field line (number_of column h)

abbrev pub fault_place : Heading → PlanFault → Place
fault_place h (Task line t fault) = column_place h line (column_of t fault)
fault_place h NoBase = File

-- the message of a fault, with these words before what is wrong, and these after it
abbrev pub fault_message : ListFile → Arrivals → ℕ → List ℕ → List ℕ → PlanFault → Told
fault_message f arrivals quantum before after fault =
    record { place = fault_place f.heading fault; text = before ++ fault_words f.unit arrivals quantum fault ++ after; hint = [] }

-- the messages of faults
abbrev pub fault_messages : ListFile → Arrivals → ℕ → List PlanFault → List Told
fault_messages f arrivals quantum faults = map (fault_message f arrivals quantum [] []) faults

-- the position of a field in a list of these bytes, without the name of the file
abbrev pub position_text : Position → List ℕ
position_text p = joined (decimal p.line ∷ codes ":" ∷ decimal p.column ∷ codes ": " ∷ [])

abbrev pub place_text : List ℕ → Place → List ℕ
place_text list File = []
place_text list Start = []
place_text list (Field line number) = position_text (field_position list (record { line = line; number = number; trims = true }))
place_text list (End line) = []
