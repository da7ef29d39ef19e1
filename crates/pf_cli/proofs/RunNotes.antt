-- What a script is answered by the text that is carried out, and the notes of a run by the desk that it left.
use Rattle.std.proofs.Common.{◌≡◌, ◌⊎◌, ℕ, Bool, true, false, List, [], Option, None, Some, Result, Ok, Err, refl, sym, subst, ap, inl}
use Rattle.std.specs.Prelude.{◌&&◌, Vec}
use Rattle.std.specs.declared.alloc.Global.{Global}
use Rattle.std.specs.Io.KnownBytes.{Keeps}
use Rattle.pf_vocabulary.specs.declared.fault.answer.Answer.{Answer}
use Rattle.pf_vocabulary.specs.declared.fault.ending.Ending.{Ending}
use Rattle.pf_vocabulary.specs.declared.fault.fault.Fault.{Fault}
use Rattle.pf_vocabulary.specs.declared.fault.fault.Fault.TheVariants as why
use Rattle.pf_vocabulary.specs.Names.Titled.{untitled}
use Rattle.pf_vocabulary.specs.declared.names.named.Named.{Named}
use Rattle.pf_vocabulary.specs.declared.names.titles.Titles.{Titles}
use Rattle.pf_plain_script.specs.Plain.{IsPlain, MakesPlain, Plain, plain}
use Rattle.pf_plain_script.specs.declared.origin.Origin.{Origin}
use Rattle.pf_plain_script.specs.declared.plain.PlainScript.{PlainScript}
use Rattle.pf_script.specs.Told.{told}
use Rattle.pf_script_notes.specs.Behind.{NotesBy, RunNotes, names_in, origins_in, text_in}
use Rattle.pf_script_run.specs.Carried.{Stops}
use Rattle.pf_arguments.specs.declared.task.Task.{Task}
use Rattle.pf_arguments.specs.declared.task.Task.TheVariants.{Run, RunTasks, Check, CheckRun, Diff, Drill, Convert, Fit, Why}
use Rattle.pf_cli.specs.Ends.{AreRunNotes, IsTextBy}
use Rattle.pf_cli.specs.Noted.{OneOf, notes_in}
use Rattle.pf_cli.specs.Tasks.{AnswersMade, AnswersTask, IsCarriedOut}
use Rattle.pf_cli.specs.Texts.{TextMade}
use Rattle.pf_cli.specs.Versions.{AnswersBytes, AnswersOf, AnswersPlan, AnswersShort, AnswersVersion}

-- Use: of a plan the one that belongs to it is carried out, ..
pub plan_text : (q : Option Plain) (s : PlainScript) (script : List ℕ) → MakesPlain (Some s) q
    → IsTextBy q script s.text.items (Some s.origins.items) s.titles.names
plan_text None s script made = absurd made
plan_text (Some p) s script made = record {
  text_is = made.text;
  origins_are = ap Some made.origins;
  names_are = ap (λ (t : Titles). t.names) made.titles;
}

-- .. and else the script itself.
pub own_text : (q : Option Plain) (script : List ℕ) → MakesPlain None q → IsTextBy q script script None []
own_text None script made = record { text_is = refl; origins_are = refl; names_are = refl }
own_text (Some p) script made = absurd made

-- Use: its answer is that of the script.
pub own_answered : (hints : Bool) (task : Task) (file script : List ℕ) (titles : Titles) (outcome answer : Result Ending Fault) (old new : Option (List ℕ))
    → MakesPlain None (plain script) → titles ≡ untitled → AnswersTask titles None hints task file script outcome old new → answer ≡ outcome
    → AnswersVersion hints task file script answer old new
own_answered hints task file script titles outcome answer old new made none answers same = by (plain script) made
  where
    by : (q : Option Plain) → MakesPlain None q → AnswersOf q hints task file script answer old new ⊎ ((answer ≡ Err why.NoMemory) × Keeps old new)
    by None made =
        inl (subst (λ (a : Result Ending Fault). AnswersTask untitled None hints task file script a old new) (sym same)
        (subst (λ (t : Titles). AnswersTask t None hints task file script outcome old new) none answers))
    by (Some p) made = absurd made

-- a task that carries a plan out is answered by the script of version 2
short_answered : (p : Plain) (hints : Bool) (task : Task) (file script : List ℕ) (answer : Result Ending Fault) (old new : Option (List ℕ)) → IsCarriedOut task
    → AnswersShort p hints task file answer old new → AnswersPlan p hints task file script answer old new
short_answered p hints (Run format fail_on) file script answer old new carried short = short
short_answered p hints (RunTasks format words fail_on) file script answer old new carried short = short
short_answered p hints Check file script answer old new carried short = absurd carried
short_answered p hints CheckRun file script answer old new carried short = absurd carried
short_answered p hints (Diff since options) file script answer old new carried short = short
short_answered p hints Drill file script answer old new carried short = short
short_answered p hints (Convert conversion) file script answer old new carried short = absurd carried
short_answered p hints (Fit asked) file script answer old new carried short = short
short_answered p hints (Why question) file script answer old new carried short = short

-- Use: .. or of the plan to which this one belongs.
pub plan_answered : (hints : Bool) (task : Task) (file script : List ℕ) (s : PlainScript) (outcome answer : Result Ending Fault) (old new : Option (List ℕ))
    → IsCarriedOut task → MakesPlain (Some s) (plain script) → ((p : Plain) → IsPlain s p → AnswersShort p hints task file outcome old new)
    → answer ≡ outcome → AnswersVersion hints task file script answer old new
plan_answered hints task file script s outcome answer old new carried made answers same = by (plain script) made
  where
    by : (q : Option Plain) → MakesPlain (Some s) q → AnswersOf q hints task file script answer old new ⊎ ((answer ≡ Err why.NoMemory) × Keeps old new)
    by None made = absurd made
    by (Some p) made =
        inl (short_answered p hints task file script answer old new carried
        (subst (λ (a : Result Ending Fault). AnswersShort p hints task file a old new) (sym same) (answers p made)))

-- Use: what was made of a text is its answer, ..
pub text_answered : (hints : Bool) (task : Task) (file text : List ℕ) (made : Result Answer Fault) (answer : Result Ending Fault) (old new : Option (List ℕ))
    → TextMade hints task file text (Some made) → AnswersMade made answer old new → AnswersBytes hints task file text answer old new
text_answered hints task file text made answer old new is answered = (Some made, is, answered)

-- .. and where nothing was, that of the script.
pub script_answered : (hints : Bool) (task : Task) (file text : List ℕ) (answer : Result Ending Fault) (old new : Option (List ℕ))
    → TextMade hints task file text None → AnswersVersion hints task file text answer old new → AnswersBytes hints task file text answer old new
script_answered hints task file text answer old new is answered = (None, is, answered)

-- the notes of its text are those of the script
notes_by : (q : Option Plain) (file script text : List ℕ) (origins : Option (List Origin)) (names : List Named) (made : Result (Vec ℕ Global) Fault)
    → IsTextBy q script text origins names → AreRunNotes file origins names text made → NotesBy q file script made
notes_by q file script text origins names (Ok notes) by are =
    subst (λ (t : List ℕ). RunNotes file (origins_in q) (names_in q) t notes.items) by.text_is
    (subst (λ (n : List Named). RunNotes file (origins_in q) n text notes.items) by.names_are
    (subst (λ (o : Option (List Origin)). RunNotes file o names text notes.items) by.origins_are are))
notes_by q file script text origins names (Err fault) by are =
    subst (λ (f : Fault). Stops (told (text_in q script)).rest.fault f) (sym are) tt

-- Use: they are told where they are asked for and follow.
pub run_noted : (q : Option Plain) (asked follows : Bool) (file script text : List ℕ) (origins : Option (List Origin)) (names : List Named)
    (made : Result (Vec ℕ Global) Fault) → IsTextBy q script text origins names
    → OneOf (asked && follows) (AreRunNotes file origins names text made) (notes_in made ≡ [])
    → OneOf asked (OneOf follows (NotesBy q file script made) (notes_in made ≡ [])) (notes_in made ≡ [])
run_noted q true true file script text origins names made by are = notes_by q file script text origins names made by are
run_noted q true false file script text origins names made by none = none
run_noted q false follows file script text origins names made by none = none
