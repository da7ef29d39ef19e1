-- What the records of a plan's script say.
use Rattle.std.specs.Prelude.{⊤, ℕ, ◌≡◌, ◌≤◌, ◌*◌, true, false, None, Ok, List, [], ◌∷◌, ◌++◌, All, length}
use Rattle.std.specs.Str.{bytes_eq}
use Rattle.pf_convert.specs.declared.plan.Plan.{Plan}
use Rattle.pf_convert.specs.declared.slotted.Slotted.{Slotted}
use Rattle.pf_convert.specs.Slots.{IsSlotted}
use Rattle.pf_convert.specs.declared.quantum.TheConstants.{LONGEST_QUANTUM}
use Rattle.pf_vocabulary.specs.declared.names.unit.Unit.{Unit}
use Rattle.pf_vocabulary.specs.Names.Text.{is_text}
use Rattle.pf_scenario.specs.System.{wide_horizon}
use Rattle.pf_scenario.specs.declared.event.Event.TheVariants.{Join}
use Rattle.pf_scenario.specs.declared.change.Change.TheVariants.{Insert}
use Rattle.pf_script.specs.declared.line.Line.TheVariants.{Edit, Steps}
use Rattle.pf_script.specs.declared.version.Version.TheVariants.{Second}
use Rattle.pf_convert.specs.declared.list.listed.Listed.{Listed}
use Rattle.pf_script.specs.declared.plan.said.Said.{Said}
use Rattle.pf_script.specs.declared.plan.said.Said.TheVariants.{Settings, Slot, Name, Asks}
use Rattle.pf_script.specs.declared.plan.state.Progress.{Progress}
use Rattle.pf_script.specs.Plan.Parsing.{end_fault, said_at}
use Rattle.pf_script.specs.Plan.Progress.{at_heading, progress_after}
use Rattle.pf_weight.specs.declared.base.TheConstants.{LARGEST_BASE}
use Rattle.pf_weight.specs.declared.task.TheConstants.{LARGEST_TASK}
use Rattle.pf_script.specs.PlanCheck.Checked.{faults}
use Rattle.pf_text.specs.Rows.Rows.{rows}
use Rattle.pf_convert.specs.Conversion.Script.{script_text, slot_of, steps_of}
use Rattle.pf_script_laws.specs.Conversions.Records.{each_numbered, script_records}

-- these records say this, one after the other, and nothing is lacking at the end
unfoldable pub AllSay : Progress → List (List (List ℕ)) → List Said → Type 0
AllSay p [] [] = end_fault p ≡ None
AllSay p [] (said ∷ saids) = ⊥
AllSay p (fields ∷ records) [] = ⊥
AllSay p (fields ∷ records) (said ∷ saids) = (said_at p fields ≡ Ok said) × AllSay (progress_after p said 0) records saids

abbrev pub settings_said : ℕ → ℕ → Said
settings_said processors base = Settings (record {
  version = Second;
  settings = record { processors = processors; base = base; cap = processors * base; horizon = wide_horizon };
  every = 64;
})

abbrev pub slot_said : ℕ × Unit → Said
slot_said slot = Slot (record { length = slot.0; unit = slot.1 })

abbrev pub name_said : ℕ → Listed → Said
name_said number task = Name number task.name

abbrev pub join_said : ℕ → Slotted → Said
join_said number s = Asks (Edit (Insert (Join s.join number s.cost s.period s.early)) false) None

-- what the plan says, record by record
abbrev pub plan_said : ℕ → ℕ → List Listed → Plan → List Said
plan_said processors quantum tasks plan =
    settings_said processors plan.base ∷ slot_said (slot_of quantum)
    ∷ (each_numbered name_said 1 tasks ++ (each_numbered join_said 1 plan.tasks.items ++ Asks (Steps (steps_of plan.base plan.tasks.items)) None ∷ []))

-- names that a script may give: none is that of a task after it
unfoldable pub AreNames : List Listed → Type 0
AreNames [] = ⊤
AreNames (task ∷ tasks) = (is_text task.name ≡ true) × All (λ other. bytes_eq task.name other.name ≡ false) tasks × AreNames tasks

-- a plan in slots of a quantum of up to a second, for as many processors as a desk may have, of tasks with such names
pub record IsWritten (processors quantum : ℕ) (tasks : List Listed) (plan : Plan) : Type 0 where
  pub some_processors : 1 ≤ processors
  pub few_processors : processors ≤ 64
  pub some_time : 1 ≤ quantum
  pub short : quantum ≤ LONGEST_QUANTUM
  pub some_base : 1 ≤ plan.base
  pub base : plan.base ≤ LARGEST_BASE
  pub few : length tasks ≤ LARGEST_TASK
  pub few_joins : length plan.tasks.items ≤ LARGEST_TASK
  pub names : AreNames tasks
  pub slotted : All IsSlotted plan.tasks.items
  pub periods : All (λ s. s.period ≤ plan.base) plan.tasks.items

-- after the heading the script of a plan says the plan
abbrev pub ScriptsSayTheirPlans : Type 0
ScriptsSayTheirPlans =
    (processors quantum : ℕ) (tasks : List Listed) (plan : Plan) → IsWritten processors quantum tasks plan
    → AllSay at_heading (script_records processors quantum tasks plan) (plan_said processors quantum tasks plan)

-- a check of the script finds no fault
abbrev pub ScriptsHaveNoFault : Type 0
ScriptsHaveNoFault =
    (processors quantum : ℕ) (tasks : List Listed) (plan : Plan) → IsWritten processors quantum tasks plan
    → faults (rows (script_text processors quantum tasks plan)) ≡ []
