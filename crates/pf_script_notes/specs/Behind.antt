-- What is told after a run of a script.
use Rattle.std.specs.Prelude.{ℕ, ◌≡◌, Option, None, Some, List, [], Result, Ok, Err, Vec, false, true}
use Rattle.std.specs.declared.alloc.Global.{Global}
use Rattle.pf_script_run.specs.Carried.{Stops}
use Rattle.pf_desk.specs.Desk.{Seen}
use Rattle.pf_vocabulary.specs.declared.fault.fault.Fault.{Fault}
use Rattle.pf_fit_command.specs.Fit.{IsSeenBehind}
use Rattle.pf_vocabulary.specs.declared.names.named.Named.{Named}
use Rattle.pf_plain_script.specs.Plain.{Plain, plain}
use Rattle.pf_plain_script.specs.declared.origin.Origin.{Origin}
use Rattle.pf_script_results.specs.Recount.{Recounted, recounted}
use Rattle.pf_run_notes.specs.Notes.{notes_text}
use Rattle.pf_script.specs.Told.{told}
use Rattle.pf_text.specs.Page.{table_text}

-- lines are told of so many refusals, denials and tasks with missed windows
abbrev pub most_lines : ℕ
most_lines = 20

-- the notes after a run of the script in this file, of version 1 or 2: of what was seen at its end, and of what its records came
-- to. Where it belongs to a plan, `origins` are the records there that its own come from
pub record RunNotes (file : List ℕ) (origins : Option (List Origin)) (names : List Named) (script text : List ℕ) : Type 0 where
  pub seen : Seen
  pub behind : IsSeenBehind (told script) seen
  pub came : Recounted
  pub counted : Some came ≡ recounted file true names origins most_lines false script
  pub is : text ≡ notes_text file names came.made came.refusals seen

-- of a script the text of version 1 or 2, the records that its own come from, and the names, by the script of version 2 that
-- belongs to it
abbrev pub text_in : Option Plain → List ℕ → List ℕ
text_in None script = script
text_in (Some p) script = table_text p.records

abbrev pub origins_in : Option Plain → Option (List Origin)
origins_in None = None
origins_in (Some p) = Some p.origins

abbrev pub names_in : Option Plain → List Named
names_in None = []
names_in (Some p) = p.titles.names

-- the notes after a run of a script of any version; it was carried out, or its first bad record stopped it, or running out of memory
abbrev pub NotesBy : Option Plain → List ℕ → List ℕ → Result (Vec ℕ Global) Fault → Type 0
NotesBy q file script (Ok text) = RunNotes file (origins_in q) (names_in q) (text_in q script) text.items
NotesBy q file script (Err fault) = Stops (told (text_in q script)).rest.fault fault

abbrev pub NotesMade : List ℕ → List ℕ → Result (Vec ℕ Global) Fault → Type 0
NotesMade file script made = NotesBy (plain script) file script made

-- so many slots were stepped by a script of version 1 or 2, and by one of any version
abbrev pub IsSlots : List ℕ → ℕ → Type 0
IsSlots script now = (seen : Seen) × IsSeenBehind (told script) seen × (seen.state.now ≡ now)

abbrev pub IsSlotsOf : List ℕ → ℕ → Type 0
IsSlotsOf script now = IsSlots (text_in (plain script) script) now
