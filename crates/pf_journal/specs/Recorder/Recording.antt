-- What answers lines, beside the file that has what was answered.
use Rattle.std.specs.Prelude.{ℕ, ◌≡◌, Bool, true, IsTrue, List, [], ◌∷◌, ◌++◌, drop, Option, None, Some, is_some}
use Rattle.sqlite_disk.specs.Disk.{Only}
use Rattle.pf_journal.specs.Crash.{IsMixing, IsOpenable, IsWithFront}
use Rattle.pf_journal.specs.Kept.{HasCause}
use Rattle.pf_journal.specs.Lines.{records_of}
use Rattle.pf_journal.specs.Texts.{whole_lines}
use Rattle.pf_journal.specs.declared.journal_error.JournalError.{JournalError}
use Rattle.pf_stream.specs.Dialogue.Scripts.{IsOfLines}
use Rattle.pf_stream.specs.declared.dialogue.answers.Going.{Going}

-- what answers lines (S), the file that has its records (D), the lines of its script that are not in the file yet, and why the file
-- takes no more, where it takes none
pub record Recording (S D : Type 0) : Type 0 where
  pub machine : S
  pub file : D
  pub waiting : List ℕ
  pub lost : Option JournalError

-- a line is answered: the lines that the script got by it wait
pub record Answers {S D : Type 0} (answers : S → List ℕ → List ℕ → Going → S → Type 0) (script : S → List ℕ) (r : Recording S D)
    (line text : List ℕ) (going : Going) (t : Recording S D) : Type 0 where
  pub answered : answers r.machine line text going t.machine
  pub more : List ℕ
  pub lines : IsOfLines more
  pub script_is : script t.machine ≡ script r.machine ++ more
  pub waiting_is : t.waiting ≡ r.waiting ++ more
  pub file_is : t.file ≡ r.file
  pub lost_is : t.lost ≡ r.lost

-- a line is not answered: nothing more waits
pub record Stops {S D : Type 0} (r t : Recording S D) : Type 0 where
  pub waiting_is : t.waiting ≡ r.waiting
  pub file_is : t.file ≡ r.file
  pub lost_is : t.lost ≡ r.lost

-- what waited is in the file, and a crash leaves just that
pub record Keeps {S D : Type 0} (seen : D → List ℕ) (may_leave : D → List ℕ → Type 0) (is_clean : D → Bool) (r t : Recording S D) : Type 0 where
  pub machine_is : t.machine ≡ r.machine
  pub waiting_is : t.waiting ≡ []
  pub was : r.lost ≡ None
  pub lost_is : t.lost ≡ None
  pub calm : is_clean t.file ≡ is_clean r.file
  pub records_are : IsTrue (is_clean r.file) → records_of (seen t.file) ≡ records_of (seen r.file) ++ whole_lines r.waiting
  pub durable : IsTrue (is_clean t.file) → Only (seen t.file) (may_leave t.file)
  pub opens : IsTrue (is_clean t.file) → IsOpenable (seen t.file)

-- it is not all there: a crash leaves a front of its lines, in a file that opens where the disks are mixing; and nothing more is put there,
-- for the reason that came first
pub record Loses {S D : Type 0} (seen : D → List ℕ) (may_leave : D → List ℕ → Type 0) (is_clean is_mixing : D → Bool) (r t : Recording S D) : Type 0 where
  pub machine_is : t.machine ≡ r.machine
  pub lost_is : is_some t.lost ≡ true
  pub front : r.lost ≡ None → IsTrue (is_clean r.file) → (c : List ℕ) → may_leave t.file c
      → IsWithFront (records_of (seen r.file)) (whole_lines r.waiting) c
  pub opens : r.lost ≡ None → IsTrue (is_clean r.file) → IsMixing is_mixing → (c : List ℕ) → may_leave t.file c → IsOpenable c
  pub same : is_some r.lost ≡ true → (t.file ≡ r.file) × (t.lost ≡ r.lost)

-- why it is not all there, in a file that took more until then
pub record LosesFor {S D : Type 0} (seen : D → List ℕ) (faults : D → ℕ) (is_clean : D → Bool) (r t : Recording S D) : Type 0 where
  pub error : JournalError
  pub lost_is : t.lost ≡ Some error
  pub cause : HasCause seen faults is_clean (whole_lines r.waiting) error r.file t.file

-- the records of a script: its lines after the heading
abbrev pub records_in : List ℕ → List (List ℕ)
records_in script = drop 1 (whole_lines script)

-- the records that a file with these gets at its opening: where it has none, those of the script
abbrev pub added_to : List (List ℕ) → List ℕ → List (List ℕ)
added_to [] script = records_in script
added_to (first ∷ rest) script = []

-- it begins with a file that had these bytes: nothing waits, and all is on the disk
pub record BeginsWith {S D : Type 0} (seen : D → List ℕ) (may_leave : D → List ℕ → Type 0) (is_clean : D → Bool) (script : S → List ℕ)
    (machine : S) (file : D) (bytes : List ℕ) (r : Recording S D) : Type 0 where
  pub machine_is : r.machine ≡ machine
  pub waiting_is : r.waiting ≡ []
  pub lost_is : r.lost ≡ None
  pub calm : is_clean r.file ≡ is_clean file
  pub records_are : IsTrue (is_clean file) → records_of (seen r.file) ≡ records_of bytes ++ added_to (records_of bytes) (script machine)
  pub durable : IsTrue (is_clean r.file) → Only (seen r.file) (may_leave r.file)
  pub opens : IsTrue (is_clean r.file) → IsOpenable (seen r.file)
