-- The status that the program ends with, and what it did to its streams.
use Rattle.std.specs.Prelude.{ℕ, ◌≡◌, ◌+◌, Bool, true, false, List, [], Option, Some, None, Result, Ok, Err, Vec, if◌then◌else◌, ◌⊎◌}
use Rattle.std.specs.declared.alloc.Global.{Global}
use Rattle.std.specs.Io.KnownBytes.{Appends, Keeps}
use Rattle.pf_vocabulary.specs.declared.fault.ending.Ending.{Ending}
use Rattle.pf_vocabulary.specs.declared.fault.fault.Fault.{Fault}
use Rattle.pf_vocabulary.specs.declared.fault.fault.Fault.TheVariants as why
use Rattle.pf_vocabulary.specs.declared.fault.status.Status.TheVariants.{Done, StreamFailed}
use Rattle.pf_desk.specs.Desk.{Seen}
use Rattle.pf_vocabulary.specs.Fault.Faults.{CountsWrites, number_of}
use Rattle.pf_arguments.specs.declared.request.WordsFault.{WordsFault}
use Rattle.pf_arguments.specs.declared.request.WordsFault.TheVariants as words
use Rattle.pf_arguments.specs.declared.task.Task.{Task}
use Rattle.pf_arguments.specs.declared.telling.Telling.{Telling}
use Rattle.pf_arguments.specs.declared.task.Task.TheVariants.{Convert, Fit}
use Rattle.clap.specs.Words.{subcommand_of}
use Rattle.pf_arguments.specs.Asked.{task_asked, pair_asked, desk_asked, file_asked, telling_asked, AsksHelp, AsksVersion, IsMistakeText, IsRefused, IsShownTo, AreMistaken}
use Rattle.pf_arguments.specs.CommandLine.{program}
use Rattle.pf_arguments.specs.Desks.{DeskNames}
use Rattle.pf_arguments.specs.Diffs.{PairNames}
use Rattle.pf_arguments.specs.Texts.{IsRefusal}
use Rattle.pf_arguments.specs.declared.mistake.Mistake.{Mistake}
use Rattle.pf_stream.specs.Written.{TookFront}
use Rattle.pf_cli.specs.Compared.{AnswersSecond, PairNotes, Shows}
use Rattle.pf_cli.specs.FaultLines.{fault_line}
use Rattle.pf_cli.specs.Noted.{AreNotes, IsTold, gone_diff, gone_of, notes_in, noting_behind, noting_of, status_ended}
use Rattle.pf_cli.specs.declared.noted.Noted.{Noted}
use Rattle.pf_cli.specs.declared.program.TheConstants.{EITHER_PROMPT, LIST_PROMPT, PROMPT}
use Rattle.pf_cli.specs.Source.{IsHad, IsSource, told_name}
use Rattle.pf_cli.specs.Versions.{AnswersBytes}

-- 2 words that are refused or mistaken, 4 no memory
abbrev pub status_of_words : WordsFault → ℕ
status_of_words (words.Refused text) = 2
status_of_words (words.Mistaken line) = 2
status_of_words words.NoMemory = 4

-- what is seen of the two streams: the bytes that the reader has left and those that the writer holds, where they tell
-- them, and how often each failed
pub record Streams : Type 0 where
  pub input : Option (List ℕ)
  pub failed_reads : ℕ
  pub output : Option (List ℕ)
  pub failed_writes : ℕ

-- the same, of a reader and a writer
abbrev pub seen_streams : Option (List ℕ) → ℕ → Option (List ℕ) → ℕ → Streams
seen_streams input failed_reads output failed_writes =
    record { input = input; failed_reads = failed_reads; output = output; failed_writes = failed_writes }

-- how the program ends where it reads no script: help or the version was asked for, and was written (0) or could not be
-- (3), the words were refused or are mistaken (2), or memory was refused (4)
abbrev pub EndsUnread : List (List ℕ) → ℕ → Type 0
EndsUnread words status =
    ((AsksHelp words ⊎ AsksVersion words) × ((status ≡ 0) ⊎ (status ≡ 3)))
    ⊎ ((IsRefused words ⊎ ((mistake : Mistake) × AreMistaken words mistake)) × (status ≡ 2))
    ⊎ (status ≡ 4)

-- a text was told: the whole of it where no write failed, and else a front of it
pub record Tells (old new : Option (List ℕ)) (old_failed new_failed : ℕ) (text : List ℕ) : Type 0 where
  pub front : TookFront old new text
  pub whole : new_failed ≡ old_failed → Appends old new text

-- what is told of words that are refused, and of those that are mistaken
abbrev pub IsToldOf : List (List ℕ) → List ℕ → Type 0
IsToldOf words text =
    (IsRefused words × IsRefusal words text)
    ⊎ ((mistake : Mistake) × AreMistaken words mistake × IsMistakeText (subcommand_of program words) mistake text)

-- a text was written, and the status is 0; or a front of it, where a write failed, and it is 3, or 0 where nobody reads any more
abbrev pub IsWritten : Bool → ℕ → Option (List ℕ) → Option (List ℕ) → ℕ → ℕ → List ℕ → Type 0
IsWritten closed status old new old_failed new_failed text =
    ((status ≡ 0) × Appends old new text × (new_failed ≡ old_failed))
    ⊎ ((status ≡ number_of (if closed then Done else StreamFailed)) × TookFront old new text × (new_failed ≡ old_failed + 1))

-- nothing was written
pub record IsUntouched (old new : Streams) : Type 0 where
  pub output : Keeps old.output new.output
  pub writes : new.failed_writes ≡ old.failed_writes

-- no script was read, and nothing was written but the text that was asked for, where the status is 0 or 3; where it is 2, `told`
-- holds of what is told of the words, and where it is 4 of that memory was refused
pub record ReadsNothing (words : List (List ℕ)) (closed : Bool) (status : ℕ) (old new : Streams) (told : List ℕ → Type 0) : Type 0 where
  pub ended : EndsUnread words status
  pub input : new.input ≡ old.input
  pub reads : new.failed_reads ≡ old.failed_reads
  pub shown : (status ≡ 0) ⊎ (status ≡ 3) → (text : List ℕ) × IsShownTo words text
      × IsWritten closed status old.output new.output old.failed_writes new.failed_writes text
  pub unwritten : (status ≡ 2) ⊎ (status ≡ 4) → IsUntouched old new
  pub tells : status ≡ 2 → (text : List ℕ) × IsToldOf words text × told text
  pub memory : status ≡ 4 → told (fault_line why.NoMemory)

-- this answer is one to a task with this script; where that was not had, its fault is the answer, and the writer is as it was
abbrev pub AnswersScript : Bool → Task → List ℕ → Result (Vec ℕ Global) Fault → Result Ending Fault → Option (List ℕ) → Option (List ℕ) → Type 0
AnswersScript hints task file (Ok script) answer old new = AnswersBytes hints task file script.items answer old new
AnswersScript hints task file (Err fault) answer old new = (answer ≡ Err fault) × Keeps old new

-- this answer is one to a task with the script of the file that is named, and else of the reader, with its notes where they are
-- asked for; the writer failed as it says
pub record IsDone (task : Task) (file : Option (List ℕ)) (telling : Telling) (noted : Noted) (old new : Streams) : Type 0 where
  pub script : Result (Vec ℕ Global) Fault
  pub had : IsHad script
  pub source : IsSource file script old.input old.failed_reads new.input new.failed_reads
  pub answers : AnswersScript telling.notes task (told_name file) script noted.outcome old.output new.output
  pub writes : CountsWrites noted.outcome old.failed_writes new.failed_writes
  pub notes : AreNotes (noting_behind (noting_of telling task) noted.outcome) (told_name file) script noted.outcome noted.notes

-- after the first of two scripts: its fault is the answer, and then the second is not read; else the second is, and both are
-- compared
abbrev pub ComparesBehind : PairNames → Telling → Result Seen Fault → Result (Vec ℕ Global) Fault → Noted → Streams → Streams → Type 0
ComparesBehind names telling (Ok before) first_notes noted old new =
    (second : Result Seen Fault) × (second_notes : Result (Vec ℕ Global) Fault)
    × Shows names.second telling second second_notes old.input old.failed_reads new.input new.failed_reads
    × AnswersSecond names.options before second noted.outcome old.output new.output
    × PairNotes names telling.notes before second first_notes second_notes noted.outcome noted.notes
ComparesBehind names telling (Err fault) first_notes noted old new =
    (noted.outcome ≡ Err fault) × (noted.notes ≡ first_notes) × (new.input ≡ old.input) × (new.failed_reads ≡ old.failed_reads) × Keeps old.output new.output

-- this answer is one to two scripts, each of the file that is named or of the reader: the first is read, and nothing is written
-- before both were
pub record ComparesScripts (names : PairNames) (telling : Telling) (noted : Noted) (old new : Streams) : Type 0 where
  pub between : Streams
  pub first : Result Seen Fault
  pub first_notes : Result (Vec ℕ Global) Fault
  pub shows : Shows names.first telling first first_notes old.input old.failed_reads between.input between.failed_reads
  pub unwritten : (between.output ≡ old.output) × (between.failed_writes ≡ old.failed_writes)
  pub answers : ComparesBehind names telling first first_notes noted between new
  pub writes : CountsWrites noted.outcome old.failed_writes new.failed_writes

-- two scripts were compared or not, the status is that of the answer, and `told` holds of what it has to tell with its notes
pub record Compares (names : PairNames) (telling : Telling) (closed : Bool) (status : ℕ) (old new : Streams) (told : List ℕ → Type 0) : Type 0 where
  pub noted : Noted
  pub status_is : status ≡ status_ended closed (gone_diff names.options) noted.outcome
  pub done : ComparesScripts names telling noted old new
  pub told_is : IsTold closed noted.outcome (notes_in noted.notes) told

-- a task was done or not, the status is that of the answer, and `told` holds of what it has to tell with its notes
pub record Does (task : Task) (file : Option (List ℕ)) (telling : Telling) (closed : Bool) (status : ℕ) (old new : Streams) (told : List ℕ → Type 0) : Type 0 where
  pub noted : Noted
  pub status_is : status ≡ status_ended closed (gone_of task) noted.outcome
  pub done : IsDone task file telling noted old new
  pub told_is : IsTold closed noted.outcome (notes_in noted.notes) told

-- words that ask for a task have it done with the script of the file that they name, and else with the reader's; those that name
-- two scripts have them compared; of those that ask for a session at a desk `held` tells; where they ask for nothing, nothing is read
abbrev pub AnswersAsked : List (List ℕ) → Option Task → Option PairNames → Option DeskNames → Option (List ℕ) → Telling → Bool → ℕ → Streams → Streams
    → (List ℕ → Type 0) → (DeskNames → Type 0) → Type 0
AnswersAsked words (Some task) pair desk file telling closed status old new told held = Does task file telling closed status old new told
AnswersAsked words None (Some names) desk file telling closed status old new told held = Compares names telling closed status old new told
AnswersAsked words None None (Some desk) file telling closed status old new told held = held desk
AnswersAsked words None None None file telling closed status old new told held = ReadsNothing words closed status old new told

-- whether nobody reads the output any more, the status, the streams, and what holds of what is told, and of a session
abbrev pub AnswersWords : List (List ℕ) → Bool → ℕ → Streams → Streams → (List ℕ → Type 0) → (DeskNames → Type 0) → Type 0
AnswersWords words closed status old new told held =
    AnswersAsked words (task_asked words) (pair_asked words) (desk_asked words) (file_asked words) (telling_asked words) closed status old new
    told held

-- what a terminal is told before what this task takes is read from it
abbrev pub prompt_text : Task → List ℕ
prompt_text (Convert conversion) = LIST_PROMPT.now
prompt_text (Fit form) = EITHER_PROMPT.now
prompt_text task = PROMPT.now

abbrev pub prompt_for : Option Task → List ℕ
prompt_for (Some task) = prompt_text task
prompt_for None = []

-- a terminal was told how that ends, where it is to be told; memory may be refused for what the words ask
pub record IsPrompted (asked : Bool) (text : List ℕ) (told : List ℕ → Type 0) : Type 0 where
  pub asked_so : asked ≡ true → told text ⊎ told []
  pub unasked : asked ≡ false → told []

-- the text that is told of words that ask for nothing
abbrev pub told_of : WordsFault → List ℕ
told_of (words.Refused text) = text.items
told_of (words.Mistaken text) = text.items
told_of words.NoMemory = fault_line why.NoMemory
