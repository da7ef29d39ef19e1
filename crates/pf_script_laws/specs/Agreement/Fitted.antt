-- What `fit` answers to a script that asks for what a plan's script says.
use Rattle.std.specs.Prelude.{◌≡◌, ◌↔◌, ℕ, Bool, ◌*◌, ◌≤◌, Option, Some, List}
use Rattle.pf_convert.specs.declared.plan.Plan.{Plan}
use Rattle.pf_vocabulary.specs.declared.fault.answer.Answer.{Answer}
use Rattle.pf_vocabulary.specs.declared.fault.status.Status.TheVariants.{Done}
use Rattle.pf_fit_command.specs.Fit.{FitMade}
use Rattle.pf_vocabulary.specs.declared.options.fit_format.FitFormat.{FitFormat}
use Rattle.pf_vocabulary.specs.declared.names.titles.Titles.{Titles}
use Rattle.pf_plain_script.specs.declared.origin.Origin.{Origin}
use Rattle.pf_script_desk.specs.Asked.{commands_in}
use Rattle.pf_script.specs.Told.{Told, told}
use Rattle.pf_script.specs.declared.record.ScriptSettings.{ScriptSettings}
use Rattle.pf_convert.specs.declared.list.listed.Listed.{Listed}
use Rattle.pf_script_laws.specs.Conversions.Read.{IsWritten}
use Rattle.pf_script_laws.specs.Conversions.Written.{IsMeasured}
use Rattle.pf_script_laws.specs.PlanFits.Laws.{plan_commands, plan_settings}

-- a script that tells this asks for what the script of a plan says, on so many processors
pub record AsksPlan (processors : ℕ) (plan : Plan) (t : Told) : Type 0 where
  pub opening : ScriptSettings
  pub opens : t.opening ≡ Some opening
  pub settings : opening.settings ≡ plan_settings processors plan.base
  pub asks : commands_in t.rest.lines ≡ plan_commands plan

-- The status of `fit` is `Done` just where the load is within the processors, as that of the conversion is.
abbrev pub FitsAreDone : Type 0
FitsAreDone =
    (processors quantum : ℕ) (tasks : List Listed) (plan : Plan) (format : FitFormat) (file : List ℕ) (hints : Bool) (origins : Option (List Origin)) (titles : Titles)
    (script : List ℕ) (answer : Answer) → IsWritten processors quantum tasks plan → IsMeasured plan → AsksPlan processors plan (told script)
    → FitMade format file hints origins titles script answer → (answer.ending.status ≡ Done) ↔ (plan.load ≤ processors * plan.base)
