-- What a desk was asked that answered commands.
use Rattle.std.proofs.Common.{◌≡◌, ℕ, List, [], ◌∷◌, ◌++◌, Option, Some, None, Result, Ok, Err, refl, sym, ap, ap₂, subst, ◌∙◌, append-nil}
use Rattle.std.specs.Prelude.{IfOk, IfErr}
use Rattle.std.proofs.lemmas.List.{map-append}
use Rattle.pf_desk.specs.declared.command.Command.{Command}
use Rattle.pf_desk.specs.Desk.{Shown, AnswersAll}
use Rattle.pf_desk.specs.Machine.{State}
use Rattle.pf_desk.proofs.Histories.{settings_behind}
use Rattle.pf_vocabulary.specs.declared.fault.fault.Fault.{Fault}
use Rattle.pf_script.specs.declared.fault.ScriptFault.{ScriptFault}
use Rattle.pf_script.specs.declared.fault.ScriptFault.TheVariants as script
use Rattle.pf_script.specs.declared.record.LineTold.{LineTold}
use Rattle.pf_script.specs.declared.record.ScriptSettings.{ScriptSettings}
use Rattle.pf_script.specs.Answers.{ReadsLine}
use Rattle.pf_script_desk.specs.Asked.{commands_in, commands_of}
use Rattle.pf_script.specs.Faults.{fault_of_script}
use Rattle.pf_script.specs.Opened.{Opens}
use Rattle.pf_script.specs.Told.{FaultTold, LinesTold, Told}
use Rattle.pf_script_desk.specs.Carrying.{Carrying, HasTaken, opened, script_caller}
use Rattle.pf_script_desk.proofs.Answered.{taken_then}
use Rattle.pf_script_run.specs.Carried.{IsOf, Stops, asked_in}

-- Use: of the lines left one was taken.
pub line_taken : (a b : Carrying) (left behind : LinesTold) (line : LineTold) (after : Shown) → left ≡ record behind { lines = line ∷ behind.lines }
    → HasTaken (commands_of line.asks) a b → AnswersAll script_caller (b.waiting ++ commands_in behind.lines) b.desk after
    → AnswersAll script_caller (a.waiting ++ commands_in left.lines) a.desk after
line_taken a b left behind line after is h rest =
    subst (λ (told : LinesTold). AnswersAll script_caller (a.waiting ++ commands_in told.lines) a.desk after) (sym is)
    (taken_then (commands_of line.asks) (commands_in behind.lines) a b after h rest)

-- Use: none is left, and the commands that waited were answered.
pub none_left : (a : Carrying) (left : LinesTold) (after : Shown) → left ≡ record { lines = []; fault = None } → AnswersAll script_caller a.waiting a.desk after
    → AnswersAll script_caller (a.waiting ++ commands_in left.lines) a.desk after
none_left a left after is h =
    subst (λ cs. AnswersAll script_caller cs a.desk after)
    (sym (append-nil a.waiting) ∙ ap (λ (told : LinesTold). a.waiting ++ commands_in told.lines) (sym is)) h

-- Use: a line was not read.
pub line_stops : (all : Option FaultTold) (left behind : LinesTold) (fields : List (List ℕ)) (fault : ScriptFault) → left.fault ≡ all
    → ReadsLine (Err fault) fields left behind → Stops all (fault_of_script fault)
line_stops all left behind fields (script.Bad bad) same h = rw (← same, h) refl
line_stops all left behind fields (script.Missing bad) same h = rw (← same, h) refl
line_stops all left behind fields script.Memory same h = tt

-- Use: the script was not read up to its settings.
pub opening_stops : (t : Told) (fields : List (List ℕ)) (fault : ScriptFault) → Opens (Err fault) fields t → Stops t.rest.fault (fault_of_script fault)
opening_stops t fields (script.Bad bad) h = rw h.1 refl
opening_stops t fields (script.Missing bad) h = rw h.1 refl
opening_stops t fields script.Memory h = tt

-- Use: the lines after the settings were carried out.
module _ (t : Told) (opening : ScriptSettings) (lines : LinesTold) (is : t ≡ record { opening = Some opening; rest = lines }) where
  carried : (start : Carrying) (desk : Shown) → start ≡ opened opening.settings opening.every start.desk.spare
      → AnswersAll script_caller (start.waiting ++ commands_in lines.lines) start.desk desk → IsOf t desk
  carried start desk new h = record {
    opening = opening;
    told = ap (λ (t : Told). t.opening) is;
    settings =
        ap (λ (st : State). st.plan.settings) h.state ∙ settings_behind start.desk.state h.entries
        ∙ ap (λ (c : Carrying). c.desk.state.plan.settings) new;
    asked =
        ap asked_in h.entered ∙ map-append (λ e. e.command) start.desk.history h.entries
        ∙ ap₂ (λ (xs ys : List Command). xs ++ ys) (ap (λ (c : Carrying). asked_in c.desk.history) new) h.commands_in_order
        ∙ ap (λ (c : Carrying). c.waiting ++ commands_in lines.lines) new
        ∙ ap (λ (t : Told). commands_in t.rest.lines) (sym is);
  }

  pub carried_if : {E : Type 0} (r : Result Shown E) (start : Carrying) → start ≡ opened opening.settings opening.every start.desk.spare
      → IfOk r (λ desk. AnswersAll script_caller (start.waiting ++ commands_in lines.lines) start.desk desk) → IfOk r (λ desk. IsOf t desk)
  carried_if (Ok desk) start new h = carried start desk new h
  carried_if (Err e) start new h = tt

  pub whole_if : {E : Type 0} (r : Result Shown E) → IfOk r (λ desk. lines.fault ≡ None) → IfOk r (λ desk. t.rest.fault ≡ None)
  whole_if (Ok desk) h = ap (λ (t : Told). t.rest.fault) is ∙ h
  whole_if (Err e) h = tt

  pub stops_if : {A : Type 0} (r : Result A Fault) → IfErr r (Stops lines.fault) → IfErr r (Stops t.rest.fault)
  stops_if r h = subst (λ f. IfErr r (Stops f)) (sym (ap (λ (t : Told). t.rest.fault) is)) h
