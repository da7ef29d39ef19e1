-- A desk at which a script ends has carried it out.
use Rattle.std.proofs.Common.{◌≡◌, ◌∙◌, ℕ, List, [], ◌∷◌, ◌++◌, Option, Some, None, Result, Ok, Err, refl, sym, ap, append-nil, append_assoc}
use Rattle.std.specs.Prelude.{IfOk}
use Rattle.pf_script_run.specs.Carried.{IsOf}
use Rattle.pf_desk.specs.Desk.{Shown}
use Rattle.pf_desk.specs.Machine.{reply_to}
use Rattle.pf_desk.specs.declared.command.Command.{Command}
use Rattle.pf_desk.proofs.Histories.{settings_after}
use Rattle.pf_vocabulary.specs.declared.fault.fault.Fault.{Fault}
use Rattle.pf_script_desk.specs.Asked.{commands_in}
use Rattle.pf_script.specs.Told.{Told}
use Rattle.pf_script.specs.declared.record.ScriptSettings.{ScriptSettings}
use Rattle.pf_replies.specs.Carried.{EndsBy}
use Rattle.pf_replies.specs.Course.{ScriptCourse, course_after, course_at, course_behind, fault_number, opening_course, outcome_of, outcome_told}

-- no command changes the settings, and each is asked after those before it
settings_kept : (c : ScriptCourse) (cs : List Command) → (course_behind c cs).state.plan.settings ≡ c.state.plan.settings
settings_kept c [] = refl
settings_kept c (command ∷ cs) = settings_kept (course_after c command) cs ∙ settings_after c.state command (reply_to c.state command)

all_asked : (c : ScriptCourse) (cs : List Command) → (course_behind c cs).asked ≡ c.asked ++ cs
all_asked c [] = sym (append-nil c.asked)
all_asked c (command ∷ cs) = all_asked (course_after c command) cs ∙ append_assoc c.asked (command ∷ []) cs

abbrev course_or : ScriptCourse → Result ScriptCourse ℕ → ScriptCourse
course_or other (Ok c) = c
course_or other (Err number) = other

is_of : (t : Told) (desk : Shown) → outcome_told t ≡ Ok (course_at desk) → IsOf t desk
is_of t desk is = by t.opening refl (fault_number t.rest.fault) is
  where
    by : (opening : Option ScriptSettings) → t.opening ≡ opening → (fault : Option ℕ) → outcome_of opening (commands_in t.rest.lines) fault ≡ Ok (course_at desk)
        → IsOf t desk
    by None none None is = let never : Err 1 ≡ Ok (course_at desk) = is in cc
    by None none (Some number) is = let never : Err number ≡ Ok (course_at desk) = is in cc
    by (Some s) some (Some number) is = let never : Err number ≡ Ok (course_at desk) = is in cc
    by (Some s) some None is =
        let opened = opening_course s.every s.settings in
        let there : course_behind opened (commands_in t.rest.lines) ≡ course_at desk = ap (course_or (course_at desk)) is in
        record {
          opening = s;
          told = some;
          settings = ap (λ (c : ScriptCourse). c.state.plan.settings) (sym there) ∙ settings_kept opened (commands_in t.rest.lines);
          asked = ap (λ (c : ScriptCourse). c.asked) (sym there) ∙ all_asked opened (commands_in t.rest.lines);
        }

-- Use: a script was carried out to its end.
pub carried_out : (t : Told) (outcome : Result ScriptCourse ℕ) (result : Result Shown Fault) → outcome ≡ outcome_told t → EndsBy outcome result
    → IfOk result (IsOf t)
carried_out t outcome (Ok desk) same ends = is_of t desk (sym same ∙ ends)
carried_out t outcome (Err fault) same ends = tt
