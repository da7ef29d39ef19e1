-- A session that begins on a file.
use Rattle.std.specs.Prelude.{ℕ, ◌≡◌, ◌⊎◌, Bool, true, false, not, Option, None, Some, is_some, Result, Ok, Err, List, [], ◌∷◌}
use Rattle.std.specs.List.{list_any}
use Rattle.pf_answers.specs.declared.manner.Manner.{Manner}
use Rattle.pf_vocabulary.specs.declared.fault.fault.Fault.{Fault}
use Rattle.pf_journal.specs.Batches.{has_room}
use Rattle.pf_journal.specs.Lines.{damaged_record, records_of, script_of, state_of, torn_size}
use Rattle.pf_journal.specs.declared.state.State.{State}
use Rattle.pf_journal.specs.declared.state.State.TheVariants as file
use Rattle.pf_journal_file.specs.declared.journal_fault.JournalFault.{JournalFault}
use Rattle.pf_journal_file.specs.declared.journal_fault.JournalFault.TheVariants.{Damaged, HasRecords, LongRecord, NoHeading, NoMemory, Unwritten}
use Rattle.pf_journal_file.specs.Sizes.{sizes_of}
use Rattle.pf_journal_file.specs.declared.sizes.Sizes.{Sizes}
use Rattle.pf_journal_session.specs.declared.unopened.Unopened.{Unopened}
use Rattle.pf_journal_session.specs.declared.unopened.Unopened.TheVariants.{Journal, Record, Script}
use Rattle.pf_journal.specs.Recorder.Recording.{BeginsWith, Recording, added_to}
use Rattle.pf_session_turns.specs.Opening.{IsOpened, opened}
use Rattle.pf_session.specs.Session.{SessionState, at_start}

-- a script goes with a file that has no record alone; and neither another file is taken for a journal, nor one that is damaged at this
-- line
abbrev pub refused_with : Bool → List (List ℕ) → Option JournalFault
refused_with false records = None
refused_with true [] = None
refused_with true (first ∷ rest) = Some HasRecords

abbrev pub refused_at : State → ℕ → Bool → List (List ℕ) → Option JournalFault
refused_at file.New line has_script records = refused_with has_script records
refused_at file.Journal line has_script records = refused_with has_script records
refused_at file.Damaged line has_script records = Some (Damaged line)
refused_at file.Other line has_script records = Some NoHeading

abbrev pub refused_file : Bool → List ℕ → Option JournalFault
refused_file has_script bytes = refused_at (state_of bytes) (damaged_record bytes) has_script (records_of bytes)

-- a session without a line, or after these lines of a file
abbrev pub behind_file : Manner → List (List ℕ) → List ℕ → Result SessionState ℕ
behind_file manner [] lines = Ok (at_start manner)
behind_file manner (first ∷ rest) lines = opened manner lines

-- a session on a file with these bytes: after a script where one is named, else after the records of the file
abbrev pub session_on : Manner → Option (List ℕ) → List ℕ → Result SessionState ℕ
session_on manner None bytes = behind_file manner (records_of bytes) (script_of bytes)
session_on manner (Some script) bytes = opened manner script

-- what there is to take back begins anew
abbrev pub anew : SessionState → SessionState
anew s = record s { made = []; undone = [] }

-- a session is kept in a file that had these bytes: it answers from there on
pub record IsKeptOn {D : Type 0} (seen : D → List ℕ) (may_leave : D → List ℕ → Type 0) (is_clean : D → Bool) (session : SessionState)
    (file : D) (bytes : List ℕ) (recorder : Recording SessionState D) (sizes : Sizes) : Type 0 where
  pub kept : BeginsWith seen may_leave is_clean (λ s. s.script) (anew session) file bytes recorder
  pub sizes_are : sizes ≡ sizes_of session (torn_size bytes)

-- such a file is one for a session, which this one is as it begins, with a script that goes first or without one
pub record IsBegunOn (manner : Manner) (script : Option (List ℕ)) (bytes : List ℕ) (session : SessionState) : Type 0 where
  pub fits : refused_file (is_some script) bytes ≡ None
  pub begun : session_on manner script bytes ≡ Ok session

-- it began there, and is kept there
pub record Begins {D : Type 0} (seen : D → List ℕ) (may_leave : D → List ℕ → Type 0) (is_clean : D → Bool) (manner : Manner)
    (script : Option (List ℕ)) (file : D) (bytes : List ℕ) (recorder : Recording SessionState D) (sizes : Sizes) : Type 0 where
  pub session : SessionState
  pub begun : IsBegunOn manner script bytes session
  pub kept : IsKeptOn seen may_leave is_clean session file bytes recorder sizes

-- the records that a file with these bytes gets of a session, one of which is longer than a record of a journal may be
abbrev pub HasLong : List ℕ → SessionState → Type 0
HasLong bytes session = list_any (λ line. not (has_room [] line)) (added_to (records_of bytes) session.script) ≡ true

-- the file can't be opened or written: memory was refused, it took no more, a record is too long for it, or it is none for a session
abbrev pub IsUnwritten : List ℕ → SessionState → Unopened → Type 0
IsUnwritten bytes session (Journal fault) =
    (fault ≡ NoMemory) ⊎ (fault ≡ Unwritten) ⊎ ((fault ≡ LongRecord) × HasLong bytes session) ⊎ (refused_file false bytes ≡ Some fault)
IsUnwritten bytes session (Record fault lines) = ⊥
IsUnwritten bytes session (Script fault) = ⊥

-- its records were not carried out, or those of the script, for this fault; or memory was refused for telling
abbrev pub IsUnbegun : Bool → List ℕ → Fault → Unopened → Type 0
IsUnbegun has_script bytes why (Journal fault) = fault ≡ NoMemory
IsUnbegun has_script bytes why (Record fault lines) = (has_script ≡ false) × (fault ≡ why) × (lines.items ≡ script_of bytes)
IsUnbegun has_script bytes why (Script fault) = (has_script ≡ true) × (fault ≡ why)

-- a file that is one for a session was not opened or written: memory was refused, it took no more, or a record of its session is too long
abbrev pub IsUntaken : Manner → Option (List ℕ) → List ℕ → JournalFault → Type 0
IsUntaken manner script bytes fault =
    (fault ≡ NoMemory) ⊎ (fault ≡ Unwritten)
    ⊎ ((fault ≡ LongRecord) × (session : SessionState) × IsBegunOn manner script bytes session × HasLong bytes session)

-- none began: the file is none for it, or could not be opened or written; or a record is bad
abbrev pub DoesNotBegin : Manner → Option (List ℕ) → List ℕ → Unopened → Type 0
DoesNotBegin manner script bytes (Journal fault) =
    (refused_file (is_some script) bytes ≡ Some fault)
    ⊎ ((refused_file (is_some script) bytes ≡ None) × IsUntaken manner script bytes fault)
DoesNotBegin manner script bytes (Record fault lines) =
    (is_some script ≡ false) × (lines.items ≡ script_of bytes) × IsOpened (session_on manner script bytes) (Err fault)
DoesNotBegin manner script bytes (Script fault) = (is_some script ≡ true) × IsOpened (session_on manner script bytes) (Err fault)
