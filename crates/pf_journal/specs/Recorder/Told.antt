-- Sittings whose answers are kept in a file.
use Rattle.std.specs.Prelude.{ℕ, ◌≡◌, Bool, IsTrue, List, [], ◌++◌, Ok}
use Rattle.sqlite_disk.specs.Disk.{Only}
use Rattle.pf_journal.specs.Crash.{IsOpenable}
use Rattle.pf_journal.specs.Lines.{records_of}
use Rattle.pf_journal.specs.Texts.{whole_lines}
use Rattle.pf_journal.specs.Recorder.Recording.{Answers, Keeps, Loses, Recording, Stops}
use Rattle.pf_stream.specs.Dialogue.Scripts.{IsOfLines}
use Rattle.pf_stream.specs.Dialogue.Sits.{HasSat, Round, Sits, Talk, talk_of}
use Rattle.pf_stream.specs.declared.dialogue.answers.Going.{Going}

-- nothing waits, the file told no lie, opens, and a crash leaves just what it has
pub record IsSettled {S D : Type 0} (seen : D → List ℕ) (may_leave : D → List ℕ → Type 0) (is_clean : D → Bool) (r : Recording S D) : Type 0 where
  pub waiting_is : r.waiting ≡ []
  pub clean : IsTrue (is_clean r.file)
  pub durable : Only (seen r.file) (may_leave r.file)
  pub opens : IsOpenable (seen r.file)

-- the lines that the script got are the records that the file got, and that is settled
pub record HasLines {S D : Type 0} (script : S → List ℕ) (seen : D → List ℕ) (may_leave : D → List ℕ → Type 0) (is_clean : D → Bool)
    (r t : Recording S D) : Type 0 where
  pub more : List ℕ
  pub lines : IsOfLines more
  pub script_is : script t.machine ≡ script r.machine ++ more
  pub records_are : records_of (seen t.file) ≡ records_of (seen r.file) ++ whole_lines more
  pub settled : IsSettled seen may_leave is_clean t

-- what answers and keeps (S, D), and talks with somebody (T)
abbrev pub recorded_talk : {S D T : Type 0} → (S → List ℕ → List ℕ → Going → S → Type 0) → (S → List ℕ) → (D → List ℕ) → (D → List ℕ → Type 0)
    → (D → Bool) → (D → Bool) → (T → List ℕ → T → Type 0) → (T → T → Type 0) → (T → List ℕ → T → Type 0) → (T → List ℕ → T → Type 0) → Talk (Recording S D) T
recorded_talk answers script seen may_leave is_clean is_mixing hears is_deaf tells is_mute =
    talk_of (λ r line text going t. Answers answers script r line text going t) (λ r t. Stops r t) (λ r t. Keeps seen may_leave is_clean r t)
    (λ r t. Loses seen may_leave is_clean is_mixing r t) hears is_deaf tells is_mute

-- whenever more is asked for, the file has the lines that the script got, and a crash leaves them
abbrev pub FilesHaveTold : {S D T : Type 0} → (S → List ℕ → List ℕ → Going → S → Type 0) → (S → List ℕ) → (D → List ℕ) → (D → List ℕ → Type 0)
    → (D → Bool) → (D → Bool) → (T → List ℕ → T → Type 0) → (T → T → Type 0) → (T → List ℕ → T → Type 0) → (T → List ℕ → T → Type 0) → Type 0
FilesHaveTold {S} {D} {T} answers script seen may_leave is_clean is_mixing hears is_deaf tells is_mute =
    (rounds : List Round) (r : Recording S D) (d : T) (line : List ℕ) (t : Recording S D) (e : T) (rest : List ℕ)
    → Sits (recorded_talk answers script seen may_leave is_clean is_mixing hears is_deaf tells is_mute) rounds r d line t e rest
    → IsSettled seen may_leave is_clean r → HasLines script seen may_leave is_clean r t

-- so it is at the end
abbrev pub FilesHaveAll : {S D T : Type 0} → (S → List ℕ → List ℕ → Going → S → Type 0) → (S → List ℕ) → (D → List ℕ) → (D → List ℕ → Type 0)
    → (D → Bool) → (D → Bool) → (T → List ℕ → T → Type 0) → (T → T → Type 0) → (T → List ℕ → T → Type 0) → (T → List ℕ → T → Type 0) → Type 0
FilesHaveAll {S} {D} {T} answers script seen may_leave is_clean is_mixing hears is_deaf tells is_mute =
    (r : Recording S D) (d : T) (going : Going) (t : Recording S D) (e : T)
    → HasSat (recorded_talk answers script seen may_leave is_clean is_mixing hears is_deaf tells is_mute) r d (Ok going) t e
    → IsSettled seen may_leave is_clean r → HasLines script seen may_leave is_clean r t
