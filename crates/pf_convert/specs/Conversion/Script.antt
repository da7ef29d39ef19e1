-- The script of a plan.
use Rattle.std.specs.Prelude.{ℕ, ◌+◌, ◌*◌, ◌/◌, ◌%◌, ◌==◌, max, min, if◌then◌else◌, List, [], ◌∷◌, ◌++◌, codes}
use Rattle.std.specs.Fmt.{decimal}
use Rattle.pf_convert.specs.declared.plan.Plan.{Plan}
use Rattle.pf_convert.specs.declared.slotted.Slotted.{Slotted}
use Rattle.pf_vocabulary.specs.declared.names.unit.Unit.{Unit}
use Rattle.pf_vocabulary.specs.declared.names.unit.Unit.TheVariants.{Nanosecond, Microsecond, Millisecond, Second}
use Rattle.pf_vocabulary.specs.Names.Slots.{unit_word}
use Rattle.pf_scenario.specs.declared.settings.TheConstants.{WIDE_HORIZON}
use Rattle.pf_convert.specs.declared.list.listed.Listed.{Listed}
use Rattle.pf_convert.specs.List.Parts.{joined}

-- a quantum in the greatest unit in which it is whole
abbrev pub slot_of : ℕ → ℕ × Unit
slot_of quantum =
    if quantum % 1000000000 == 0 then (quantum / 1000000000, Second)
    else if quantum % 1000000 == 0 then (quantum / 1000000, Millisecond)
    else if quantum % 1000 == 0 then (quantum / 1000, Microsecond)
    else (quantum, Nanosecond)

-- the greatest slot of a join
unfoldable pub last_join : List Slotted → ℕ
last_join [] = 0
last_join (task ∷ tasks) = max task.join (last_join tasks)

-- one base after the last join, where so many slots can be stepped
abbrev pub steps_of : ℕ → List Slotted → ℕ
steps_of base tasks = min (last_join tasks + base) WIDE_HORIZON

-- texts of some things, which are numbered from a number on
unfoldable pub numbered : {X : Type 0} → (ℕ → X → List ℕ) → ℕ → List X → List ℕ
numbered line number [] = []
numbered line number (x ∷ xs) = line number x ++ numbered line (number + 1) xs

abbrev pub name_line : ℕ → Listed → List ℕ
name_line number task = joined (codes "name," ∷ decimal number ∷ codes "," ∷ task.name ∷ codes "\n" ∷ [])

abbrev pub join_line : ℕ → Slotted → List ℕ
join_line number task =
    joined (codes "join," ∷ decimal task.join ∷ codes "," ∷ decimal number ∷ codes "," ∷ decimal task.cost ∷ codes "," ∷ decimal task.period ∷ codes ","
    ∷ decimal task.early ∷ codes "\n" ∷ [])

abbrev pub head_lines : ℕ → ℕ → ℕ × Unit → List ℕ
head_lines processors base slot =
    joined (codes "plan,1\nsettings," ∷ decimal processors ∷ codes "," ∷ decimal base ∷ codes "," ∷ decimal (processors * base) ∷ codes ",64\nslot,"
    ∷ decimal slot.0 ∷ codes "," ∷ unit_word slot.1 ∷ codes "\n" ∷ [])

abbrev pub step_line : ℕ → List ℕ
step_line steps = joined (codes "step," ∷ decimal steps ∷ codes "\n" ∷ [])

-- the script of a plan on so many processors
unfoldable pub script_text : ℕ → ℕ → List Listed → Plan → List ℕ
script_text processors quantum tasks plan =
    head_lines processors plan.base (slot_of quantum) ++ numbered name_line 1 tasks ++ numbered join_line 1 plan.tasks.items
    ++ step_line (steps_of plan.base plan.tasks.items)
