-- What a desk answers to what a plan's script says, and how it fits.
use Rattle.std.specs.Prelude.{⊤, ◌≡◌, ◌↔◌, ℕ, ◌*◌, ◌<◌, ◌≤◌, Bool, false, List, ◌++◌, All, map, replicate}
use Rattle.pf_convert.specs.declared.plan.Plan.{Plan}
use Rattle.pf_convert.specs.declared.slotted.Slotted.{Slotted}
use Rattle.pf_scenario.specs.System.{System, wide_horizon}
use Rattle.pf_scenario.specs.declared.event.Event.TheVariants.{Join}
use Rattle.pf_scenario.specs.declared.change.Change.TheVariants.{Insert}
use Rattle.pf_desk.specs.declared.command.Command.{Command}
use Rattle.pf_desk.specs.declared.command.Command.TheVariants.{Edit, Step}
use Rattle.pf_desk.specs.declared.entry.Entry.{Entry}
use Rattle.pf_desk.specs.declared.reply.Reply.{Reply}
use Rattle.pf_desk.specs.declared.reply.Reply.TheVariants.{Refused}
use Rattle.pf_desk.specs.Desk.{Seen, StandsForHistory}
use Rattle.pf_desk.specs.History.{IsLegal}
use Rattle.pf_tally.specs.Room.{MissesNone}
use Rattle.pf_convert.specs.declared.list.listed.Listed.{Listed}
use Rattle.pf_script_run.specs.Carried.{asked_in}
use Rattle.pf_verdict.specs.Findings.{grounds_of}
use Rattle.pf_verdict.specs.Verdict.{verdict_of}
use Rattle.pf_verdict.specs.declared.verdict.Verdict.TheVariants.{Fits}
use Rattle.pf_convert.specs.Conversion.Script.{steps_of}
use Rattle.pf_convert.specs.Margins.Fitting.{IsPlan}
use Rattle.pf_laws.specs.StaticSets.Periodic.{Periodic}
use Rattle.pf_laws.specs.StaticSets.Service.{Serves}
use Rattle.pf_script_laws.specs.Conversions.Records.{each_numbered}
use Rattle.pf_script_laws.specs.Conversions.Read.{IsWritten}
use Rattle.pf_script_laws.specs.Conversions.Written.{IsMeasured}

-- the settings of a plan's script, what it asks for, and in which order
abbrev pub plan_settings : ℕ → ℕ → System
plan_settings processors base = record { processors = processors; base = base; cap = processors * base; horizon = wide_horizon }

abbrev pub join_asked : ℕ → Slotted → Command
join_asked number s = Edit (Insert (Join s.join number s.cost s.period s.early)) false

abbrev pub plan_commands : Plan → List Command
plan_commands plan = each_numbered join_asked 1 plan.tasks.items ++ replicate (steps_of plan.base plan.tasks.items) Step

-- it is no refusal
abbrev pub IsTaken : Reply → Type 0
IsTaken (Refused fault) = ⊥
IsTaken reply = ⊤

-- A desk with these settings that was asked this refused nothing.
abbrev pub PlansAreTaken : Type 0
PlansAreTaken =
    (processors quantum : ℕ) (tasks : List Listed) (plan : Plan) (history : List Entry) → IsWritten processors quantum tasks plan → IsMeasured plan
    → IsLegal (plan_settings processors plan.base) history → asked_in history ≡ plan_commands plan → All (λ e. IsTaken e.reply) history

-- What is seen of it fits just where the load is within the processors.
abbrev pub PlansFitWhereTheyAreSaidTo : Type 0
PlansFitWhereTheyAreSaidTo =
    (processors quantum : ℕ) (tasks : List Listed) (plan : Plan) (history : List Entry) (seen : Seen) → IsWritten processors quantum tasks plan → IsMeasured plan
    → seen.state.plan.settings ≡ plan_settings processors plan.base → asked_in history ≡ plan_commands plan → StandsForHistory history seen
    → (verdict_of (grounds_of seen 0) ≡ Fits) ↔ (plan.load ≤ processors * plan.base)

-- No run of it misses a window, over any number of slots.
abbrev pub PlansMissNothing : Type 0
PlansMissNothing =
    (processors quantum : ℕ) (tasks : List Listed) (plan : Plan) (history : List Entry) (seen : Seen) → IsWritten processors quantum tasks plan → IsMeasured plan
    → seen.state.plan.settings ≡ plan_settings processors plan.base → asked_in history ≡ plan_commands plan → StandsForHistory history seen
    → MissesNone seen.state.plan

-- these tasks, whatever their numbers, are those of a plan
pub record HasTasks (p : Periodic) (tasks : List Slotted) : Type 0 where
  pub costs : map p.cost p.tasks ≡ map (λ (s : Slotted). s.cost) tasks
  pub periods : map p.period p.tasks ≡ map (λ (s : Slotted). s.period) tasks

-- Where the load of a plan is above its processors, no choice of quanta serves its tasks, whatever their numbers.
abbrev pub UnservedPlansHaveNoSchedule : Type 0
UnservedPlansHaveNoSchedule =
    (plan : Plan) (p : Periodic) (runs : ℕ → ℕ → Bool) → IsPlan plan → HasTasks p plan.tasks.items → p.base ≡ plan.base
    → p.processors * plan.base < plan.load → Serves p runs → ⊥
