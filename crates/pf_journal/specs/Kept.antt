-- A journal that lines may be added to, and a file as it was found.
use Rattle.std.specs.Prelude.{◌≡◌, ◌⊎◌, ◌≤◌, ◌^◌, ℕ, Bool, true, not, IsTrue, List, [], length, Option, None, Some}
use Rattle.std.specs.List.{list_any}
use Rattle.std.specs.declared.io.Error.{Error}
use Rattle.sqlite_disk.specs.Disk.{MoreFaults, Only}
use Rattle.pf_journal.specs.Batches.{has_room}
use Rattle.pf_journal.specs.declared.journal_error.JournalError.{JournalError}
use Rattle.pf_journal.specs.declared.journal_error.JournalError.TheVariants.{Damaged as DamagedAt, File, LongLine, NoHeading, OutOfMemory, TooLong}
use Rattle.pf_journal.specs.declared.state.State.{State}
use Rattle.pf_journal.specs.declared.state.State.TheVariants as file
use Rattle.pf_journal.specs.Lines.{damaged_record, state_of}
use Rattle.pf_journal.specs.Crash.{IsAtRest}
use Rattle.pf_journal.specs.declared.journal.Journal.{Journal}
use Rattle.pf_journal.specs.declared.found.Found.{Found}

-- a file that can be used, and all of which is on the disk
pub record IsSettled {D : Type 0} (seen : D → List ℕ) (may_leave : D → List ℕ → Type 0) (is_usable is_clean : D → Bool) (disk : D) : Type 0 where
  pub usable : IsTrue (is_usable disk)
  pub durable : IsTrue (is_clean disk) → Only (seen disk) (may_leave disk)

-- the file of a journal
abbrev pub disk_of : {D : Type 0} → Journal D → D
disk_of journal = journal.disk

-- the journal is at rest, all of it on the disk
pub record IsKept {D : Type 0} (seen : D → List ℕ) (may_leave : D → List ℕ → Type 0) (is_usable is_clean : D → Bool) (journal : Journal D) : Type 0 where
  pub settled : IsSettled seen may_leave is_usable is_clean journal.disk
  pub at_rest : IsTrue (is_clean journal.disk) → IsAtRest (seen journal.disk) journal.size

-- a call of the file failed, and the error is what it answered
pub record HasFailed {D : Type 0} (faults : D → ℕ) (error : JournalError) (old new : D) : Type 0 where
  pub why : Error
  pub is : error ≡ File why
  pub more : MoreFaults (faults old) (faults new)

-- why lines were not put: the journal is too long, one of them is, or a call of the file failed
pub record IsTooLong {D : Type 0} (seen : D → List ℕ) (is_clean : D → Bool) (error : JournalError) (new : D) : Type 0 where
  pub is : error ≡ TooLong
  pub length : IsTrue (is_clean new) → 2 ^ 60 ≤ length (seen new)

abbrev pub HasCause : {D : Type 0} → (D → List ℕ) → (D → ℕ) → (D → Bool) → List (List ℕ) → JournalError → D → D → Type 0
HasCause seen faults is_clean lines error old new =
    IsTooLong seen is_clean error new
    ⊎ ((error ≡ LongLine) × (list_any (λ line. not (has_room [] line)) lines ≡ true))
    ⊎ HasFailed faults error old new

abbrev pub found_disk : {D : Type 0} → Found D → D
found_disk found = found.disk

abbrev pub found_bytes : {D : Type 0} → Found D → List ℕ
found_bytes found = found.contents.bytes.items

-- what was found is what the file has
pub record IsFound {D : Type 0} (seen : D → List ℕ) (may_leave : D → List ℕ → Type 0) (is_usable is_clean : D → Bool) (found : Found D) : Type 0 where
  pub settled : IsSettled seen may_leave is_usable is_clean found.disk
  pub bytes : IsTrue (is_clean found.disk) → found.contents.bytes.items ≡ seen found.disk

-- why a file of this state, at whose line it would be damaged, is not opened, where it is not
abbrev pub refusal_at : State → ℕ → Option JournalError
refusal_at file.New line = None
refusal_at file.Journal line = None
refusal_at file.Damaged line = Some (DamagedAt line)
refusal_at file.Other line = Some NoHeading

-- why a file was not opened: it is no journal, it is damaged, or a call of it failed
abbrev pub IsUnopened : {D : Type 0} → (D → ℕ) → List ℕ → D → JournalError → D → Type 0
IsUnopened faults bytes old error new =
    ((state_of bytes ≡ file.Other) × (error ≡ NoHeading))
    ⊎ ((state_of bytes ≡ file.Damaged) × (error ≡ DamagedAt (damaged_record bytes)))
    ⊎ HasFailed faults error old new

-- why a file was not read: memory was refused, or a call of it failed
abbrev pub IsUnread : {D : Type 0} → (D → ℕ) → JournalError → D → D → Type 0
IsUnread faults error old new = (error ≡ OutOfMemory) ⊎ HasFailed faults error old new

-- why a file as it was found keeps no answers: memory was refused, it is not opened, or these lines were not put there
abbrev pub IsUnkept : {D : Type 0} → (D → List ℕ) → (D → ℕ) → (D → Bool) → List ℕ → List (List ℕ) → JournalError → D → D → Type 0
IsUnkept seen faults is_clean bytes lines error old new =
    (error ≡ OutOfMemory) ⊎ IsUnopened faults bytes old error new ⊎ HasCause seen faults is_clean lines error old new
