-- How a task ended with a script, and the notes of a run by the desk that it left.
use Rattle.std.specs.Prelude.{⊤, ℕ, ◌≡◌, List, Option, Result, Ok, Err, Vec}
use Rattle.std.specs.declared.alloc.Global.{Global}
use Rattle.pf_script_run.specs.Carried.{IsOf}
use Rattle.pf_vocabulary.specs.declared.fault.ending.Ending.{Ending}
use Rattle.pf_vocabulary.specs.declared.fault.fault.Fault.{Fault}
use Rattle.pf_vocabulary.specs.declared.fault.fault.Fault.TheVariants as why
use Rattle.pf_vocabulary.specs.declared.names.named.Named.{Named}
use Rattle.pf_plain_script.specs.Plain.{Plain}
use Rattle.pf_plain_script.specs.declared.origin.Origin.{Origin}
use Rattle.pf_script.specs.Told.{told}
use Rattle.pf_script_notes.specs.Behind.{RunNotes, names_in, origins_in, text_in}
use Rattle.pf_cli.specs.declared.task_end.TaskEnd.{TaskEnd}
use Rattle.pf_cli.specs.declared.task_end.TaskEnd.TheVariants.{Ran, Other}

-- what it came to
abbrev pub outcome_of : TaskEnd → Result Ending Fault
outcome_of (Ran ran) = Ok ran.ending
outcome_of (Other outcome) = outcome

-- the desk that a run left carried out this text of version 1 or 2
abbrev pub LeavesDesk : List ℕ → TaskEnd → Type 0
LeavesDesk text (Ran ran) = IsOf (told text) ran.desk
LeavesDesk text (Other outcome) = ⊤

-- of a script, by the script of version 2 that belongs to it, this text is carried out, with these origins and names
pub record IsTextBy (q : Option Plain) (script text : List ℕ) (origins : Option (List Origin)) (names : List Named) : Type 0 where
  pub text_is : text ≡ text_in q script
  pub origins_are : origins ≡ origins_in q
  pub names_are : names ≡ names_in q

-- the notes after a run of this text, or memory was refused for them
abbrev pub AreRunNotes : List ℕ → Option (List Origin) → List Named → List ℕ → Result (Vec ℕ Global) Fault → Type 0
AreRunNotes file origins names text (Ok made) = RunNotes file origins names text made.items
AreRunNotes file origins names text (Err fault) = fault ≡ why.NoMemory
