-- What is told after an answer of a task, or after its fault.
use Rattle.std.specs.Prelude.{ℕ, ◌≡◌, ◌||◌, ◌&&◌, not, Bool, true, false, if◌then◌else◌, List, [], ◌∷◌, ◌++◌, IfOk, Option, None, Some, Result, Ok, Err, Vec}
use Rattle.std.specs.declared.alloc.Global.{Global}
use Rattle.std.specs.declared.io.ErrorKind.{ErrorKind}
use Rattle.pf_vocabulary.specs.Fault.Answers.{status_of}
use Rattle.pf_vocabulary.specs.Fault.Faults.{number_of}
use Rattle.pf_vocabulary.specs.declared.fault.ending.Ending.{Ending}
use Rattle.pf_vocabulary.specs.declared.fault.fault.Fault.{Fault}
use Rattle.pf_vocabulary.specs.declared.fault.fault.Fault.TheVariants as why
use Rattle.pf_vocabulary.specs.declared.fault.status.Status.{Status}
use Rattle.pf_vocabulary.specs.declared.fault.status.Status.TheVariants.{Done, BadWords, StreamFailed}
use Rattle.pf_script.specs.FaultNotes.FileFaults.{file_fault_line, file_fault_of}
use Rattle.pf_script.specs.declared.fault_notes.file_fault.FileFault.TheVariants as file
use Rattle.pf_vocabulary.specs.Options.Formats.{range_of}
use Rattle.pf_vocabulary.specs.Options.Ranges.{whole}
use Rattle.pf_vocabulary.specs.declared.options.diff_options.DiffOptions.{DiffOptions}
use Rattle.pf_vocabulary.specs.declared.options.fail_on.FailOn.{FailOn}
use Rattle.pf_vocabulary.specs.declared.options.format.Format.{Format}
use Rattle.pf_vocabulary.specs.declared.options.format.Format.TheVariants.{Html}
use Rattle.pf_vocabulary.specs.declared.options.slot_range.SlotRange.{SlotRange}
use Rattle.pf_script_notes.specs.Behind.{NotesMade}
use Rattle.pf_script_notes.specs.Faults.{IsFaultNote}
use Rattle.pf_arguments.specs.declared.task.Task.{Task}
use Rattle.pf_arguments.specs.declared.telling.Telling.{Telling}
use Rattle.pf_arguments.specs.declared.task.Task.TheVariants.{Run, RunTasks, Check, CheckRun, Diff, Drill, Convert, Fit, Why}
use Rattle.pf_cli.specs.FaultLines.{fault_line}
use Rattle.pf_cli.specs.declared.noting.Noting.{Noting}

-- notes follow the tasks that carry a script out and tell of it
abbrev pub is_followed : Task → Bool
is_followed (Run format fail_on) = true
is_followed (RunTasks format words fail_on) = true
is_followed Check = false
is_followed CheckRun = false
is_followed (Diff since options) = true
is_followed Drill = true
is_followed (Convert conversion) = false
is_followed (Fit asked) = false
is_followed (Why question) = true

-- the slots that a run is to show; a page has no range
abbrev pub range_shown : Format → Option SlotRange
range_shown Html = None
range_shown format = Some (range_of format)

abbrev pub shown_range : Task → Option SlotRange
shown_range (Run format fail_on) = range_shown format
shown_range (RunTasks format words fail_on) = Some (range_of format)
shown_range task = Some whole

abbrev pub noting_of : Telling → Task → Noting
noting_of telling task =
    record { asked = telling.whole; follows = is_followed task && telling.notes; hints = telling.notes; range = shown_range task }

-- they do not follow an answer that tells of a mistake in what the words ask for
abbrev pub is_of_words : Status → Bool
is_of_words BadWords = true
is_of_words status = false

abbrev pub noting_behind : Noting → Result Ending Fault → Noting
noting_behind noting (Ok ending) = record noting { follows = noting.follows && not (is_of_words ending.status) }
noting_behind noting (Err fault) = noting

-- the text of notes; none where memory was refused for them
abbrev pub notes_in : Result (Vec ℕ Global) Fault → List ℕ
notes_in (Ok text) = text.items
notes_in (Err fault) = []

-- after the fault for which the script of this file could not be had: of a failure that its kind tells, or of its length
abbrev pub IsUnreadNote : Bool → List ℕ → Fault → List ℕ → Type 0
IsUnreadNote true name why.Read note = (kind : ErrorKind) × (note ≡ file_fault_line name (file_fault_of kind))
IsUnreadNote true name why.TooLong note = note ≡ file_fault_line name file.TooLong
IsUnreadNote asked name fault note = note ≡ []

-- the one fact where this is so, and else the other
abbrev pub OneOf : Bool → Type 0 → Type 0 → Type 0
OneOf true one other = one
OneOf false one other = other

-- after an answer to the script of this file: the notes of its run, where they follow; or after its fault
abbrev pub AreNotesAsked : {A : Type 0} → Noting → List ℕ → List ℕ → Result A Fault → Result (Vec ℕ Global) Fault → Type 0
AreNotesAsked noting name script (Ok answer) made = OneOf noting.follows (NotesMade name script made) (notes_in made ≡ [])
AreNotesAsked noting name script (Err fault) made = IfOk made (λ note. IsFaultNote name script noting.hints noting.range fault note.items)

-- nothing where no notes are asked for
abbrev pub AreNotesOf : {A : Type 0} → Noting → List ℕ → List ℕ → Result A Fault → Result (Vec ℕ Global) Fault → Type 0
AreNotesOf noting name script answer made = OneOf noting.asked (AreNotesAsked noting name script answer made) (notes_in made ≡ [])

-- whether the script was had or not
abbrev pub AreNotes : {A : Type 0} → Noting → List ℕ → Result (Vec ℕ Global) Fault → Result A Fault → Result (Vec ℕ Global) Fault → Type 0
AreNotes noting name (Ok script) answer made = AreNotesOf noting name script.items answer made
AreNotes noting name (Err fault) answer made = IfOk made (λ note. IsUnreadNote noting.asked name fault note.items)

-- how a task ends whose output nobody reads any more: its status would be an answer, or would not
abbrev pub fails_on_some : FailOn → Bool
fails_on_some fail_on = fail_on.refused || fail_on.denied || fail_on.missed

abbrev pub gone_diff : DiffOptions → Status
gone_diff options = if options.exit_code then StreamFailed else Done

abbrev pub gone_of : Task → Status
gone_of (Run format fail_on) = if fails_on_some fail_on then StreamFailed else Done
gone_of (RunTasks format words fail_on) = if fails_on_some fail_on then StreamFailed else Done
gone_of Check = StreamFailed
gone_of CheckRun = StreamFailed
gone_of (Convert conversion) = StreamFailed
gone_of (Fit asked) = StreamFailed
gone_of (Diff since options) = gone_diff options
gone_of task = Done

-- the status: that of the answer, or where nobody reads the output any more, the other one
abbrev pub status_ended : Bool → Status → Result Ending Fault → ℕ
status_ended closed otherwise (Err why.Write) = number_of (if closed then otherwise else StreamFailed)
status_ended closed otherwise answer = status_of answer

-- of a fault: its message, or its line where there is none
abbrev pub fault_text : Fault → List ℕ → List ℕ
fault_text fault [] = fault_line fault
fault_text fault (byte ∷ message) = byte ∷ message

-- what a task has to tell and the notes after it, or what is told of its fault; nothing where nobody reads the output any more
abbrev pub IsTold : Bool → Result Ending Fault → List ℕ → (List ℕ → Type 0) → Type 0
IsTold closed (Ok ending) notes told = told (ending.notes.items ++ notes)
IsTold closed (Err why.Write) notes told = OneOf closed (told []) (told (fault_text why.Write notes))
IsTold closed (Err fault) notes told = told (fault_text fault notes)
