-- What is told where a file keeps no session's records.
use Rattle.std.specs.Prelude.{⊤, ℕ, ◌≡◌, Bool, if◌then◌else◌, List, [], ◌++◌, Result, Ok, Err, codes}
use Rattle.std.specs.IoError.{error_kind}
use Rattle.std.specs.declared.io.ErrorKind.{ErrorKind}
use Rattle.std.specs.declared.io.ErrorKind.TheVariants as kind
use Rattle.pf_vocabulary.specs.declared.fault.ending.Ending.{Ending}
use Rattle.pf_vocabulary.specs.declared.fault.fault.Fault.{Fault}
use Rattle.pf_vocabulary.specs.declared.fault.fault.Fault.TheVariants as why
use Rattle.pf_vocabulary.specs.declared.fault.status.Status.{Status}
use Rattle.pf_vocabulary.specs.declared.fault.status.Status.TheVariants as status
use Rattle.pf_message.specs.Form.{file_front, hint_line, position_front}
use Rattle.pf_message.specs.Shell.{shell_word}
use Rattle.pf_script.specs.FaultNotes.FileFaults.{file_fault_line, file_fault_of}
use Rattle.pf_journal.specs.Kept.{IsUnread}
use Rattle.pf_journal.specs.declared.journal_error.JournalError.{JournalError}
use Rattle.pf_journal.specs.declared.journal_error.JournalError.TheVariants as error
use Rattle.pf_journal_file.specs.declared.journal_fault.JournalFault.{JournalFault}
use Rattle.pf_journal_file.specs.declared.journal_fault.JournalFault.TheVariants.{InUse, Unread, UnreadBeside, NoHeading, Damaged, HasRecords, LongRecord, Unwritten, NoMemory}
use Rattle.pf_journal_file.specs.declared.journals.OpenFault.{OpenFault}
use Rattle.pf_journal_file.specs.declared.journals.OpenFault.TheVariants as opening
use Rattle.pf_text.specs.FileName.{file_text}

-- by the kind of a failure to open or read it
abbrev pub fault_of_kind : ErrorKind → JournalFault
fault_of_kind kind.OutOfMemory = NoMemory
fault_of_kind other = Unread other

abbrev pub fault_of_opening : OpenFault → JournalFault
fault_of_opening opening.Busy = InUse
fault_of_opening (opening.Failed kind) = fault_of_kind kind
fault_of_opening (opening.FailedBeside kind.OutOfMemory) = NoMemory
fault_of_opening (opening.FailedBeside other) = UnreadBeside other
fault_of_opening opening.NoMemory = NoMemory

-- of a file that was opened and not read
abbrev pub fault_of_reading : JournalError → JournalFault
fault_of_reading error.OutOfMemory = NoMemory
fault_of_reading (error.File why) = fault_of_kind (error_kind why)
fault_of_reading other = Unread kind.Other

-- of a journal that was not opened or added to
abbrev pub fault_of_adding : JournalError → JournalFault
fault_of_adding (error.File why) = Unwritten
fault_of_adding error.TooLong = Unwritten
fault_of_adding error.NoHeading = NoHeading
fault_of_adding (error.Damaged line) = Damaged line
fault_of_adding error.LongLine = LongRecord
fault_of_adding error.OutOfMemory = NoMemory

-- a file that was opened was not read: memory was refused, or a call of the file failed, which it then counts
pub record IsUnreadFor {D : Type 0} (faults : D → ℕ) (file : D) (fault : JournalFault) : Type 0 where
  pub error : JournalError
  pub left : D
  pub unread : IsUnread faults error file left
  pub fault_is : fault ≡ fault_of_reading error

-- a file could not be had: it is in use, it or the file beside it can't be opened or read, or memory was refused
abbrev pub IsUnhad : JournalFault → Type 0
IsUnhad InUse = ⊤
IsUnhad (Unread kind) = ⊤
IsUnhad (UnreadBeside kind) = ⊤
IsUnhad NoMemory = ⊤
IsUnhad fault = ⊥

abbrev pub status_of : JournalFault → Status
status_of InUse = status.StreamFailed
status_of (Unread kind) = status.StreamFailed
status_of (UnreadBeside kind) = status.StreamFailed
status_of NoHeading = status.BadScript
status_of (Damaged line) = status.BadScript
status_of HasRecords = status.BadWords
status_of LongRecord = status.BadScript
status_of Unwritten = status.StreamFailed
status_of NoMemory = status.NoMemory

-- the name of the file beside a journal, which is made as it is opened
abbrev pub beside : List ℕ → List ℕ
beside file = file ++ codes "-wal"

abbrev pub unwritten_line : List ℕ → List ℕ
unwritten_line file = codes "cannot write " ++ (file_text file ++ codes "\n")

-- what is told of it, a line
abbrev pub fault_text : List ℕ → JournalFault → List ℕ
fault_text file InUse = file_front file ++ codes "another session has it open\n"
fault_text file (Unread kind) = file_fault_line file (file_fault_of kind)
fault_text file (UnreadBeside kind) = file_fault_line (beside file) (file_fault_of kind)
fault_text file NoHeading = position_front file (record { line = 1; column = 1 }) ++ codes "it is no journal\n"
fault_text file (Damaged line) =
    position_front file (record { line = line; column = 1 }) ++ codes "its line is damaged: a blank begins it, and a line end ends it\n"
fault_text file HasRecords = file_front file ++ codes "it has records already\n"
fault_text file LongRecord = codes "a record has more than 65536 bytes\n"
fault_text file Unwritten = unwritten_line file
fault_text file NoMemory = codes "out of memory\n"

-- what would be right, where something can be said
abbrev pub desk_hint : List ℕ → List ℕ
desk_hint file = codes "pfair desk " ++ (shell_word file ++ codes " begins with its records")

abbrev pub fault_hint : List ℕ → JournalFault → List ℕ
fault_hint file NoHeading = hint_line (desk_hint file)
fault_hint file HasRecords = hint_line (codes "without SCRIPT the session goes on with them")
fault_hint file fault = []

abbrev pub hint_behind : List ℕ → Bool → JournalFault → List ℕ
hint_behind file hints fault = if hints then fault_hint file fault else []

-- a session ends so, with its status and its text; memory may be refused for the text, too
abbrev pub IsOutcome : List ℕ → Bool → JournalFault → Result Ending Fault → Type 0
IsOutcome file hints fault (Err other) = other ≡ why.NoMemory
IsOutcome file hints fault (Ok ending) = (ending.status ≡ status_of fault) × (ending.notes.items ≡ fault_text file fault ++ hint_behind file hints fault)
