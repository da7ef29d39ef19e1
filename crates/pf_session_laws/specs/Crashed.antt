-- What a crash leaves of a session that is kept in a file.
use Rattle.std.specs.Prelude.{ℕ, ◌≡◌, ◌≢◌, ◌⊎◌, Bool, IsTrue, Option, None, Result, List, []}
use Rattle.pf_journal.specs.Crash.{IsMixing, IsOpenable}
use Rattle.pf_journal.specs.Lines.{records_of, state_of}
use Rattle.pf_journal.specs.declared.state.State.TheVariants.{Other}
use Rattle.pf_journal_file.specs.declared.sizes.Sizes.{Sizes}
use Rattle.pf_journal_session.specs.Journaled.{Begins, session_on}
use Rattle.pf_journal.specs.Recorder.Recording.{Recording}
use Rattle.pf_journal.specs.Recorder.Told.{IsSettled, recorded_talk}
use Rattle.pf_answers.specs.declared.manner.Manner.{Manner}
use Rattle.pf_session.specs.Session.{SessionState}
use Rattle.pf_session.specs.Showings.{Showings}
use Rattle.pf_session_turns.specs.Sitters.{answers}
use Rattle.pf_stream.specs.Dialogue.Sits.{HasSat, Round, Sits}
use Rattle.pf_stream.specs.declared.dialogue.answers.Going.{Going}
use Rattle.pf_stream.specs.declared.dialogue.fault.SitFault.{SitFault}
use Rattle.pf_session_laws.specs.Resumed.{HasRecords, IsAgain, IsBehind, IsSession}

-- a session is kept: the file has its records, and all of that is on the disk
pub record IsKept {D : Type 0} (seen : D → List ℕ) (may_leave : D → List ℕ → Type 0) (is_clean : D → Bool) (r : Recording SessionState D) : Type 0 where
  pub session : IsSession r.machine
  pub records : HasRecords (seen r.file) r.machine
  pub settled : IsSettled seen may_leave is_clean r

-- a file is new, or has the records of a session
abbrev pub IsSessionFile : List ℕ → Type 0
IsSessionFile file = (records_of file ≡ []) ⊎ ((s : SessionState) × IsSession s × HasRecords file s)

-- a session that begins on such a file is kept in it
abbrev pub BegunAreKept : {D : Type 0} → (D → List ℕ) → (D → List ℕ → Type 0) → (D → Bool) → Type 0
BegunAreKept {D} seen may_leave is_clean =
    (manner : Manner) (script : Option (List ℕ)) (file : D) (bytes : List ℕ) (recorder : Recording SessionState D) (sizes : Sizes)
    → Begins seen may_leave is_clean manner script file bytes recorder sizes → IsTrue (is_clean file) → IsSessionFile bytes
    → IsKept seen may_leave is_clean recorder

-- whenever more is asked for in a sitting, whoever shows what is wanted there, the session that was told so far is kept
abbrev pub ToldAreKept : Showings → {D T : Type 0} → (D → List ℕ) → (D → List ℕ → Type 0) → (D → Bool) → (D → Bool) → (T → List ℕ → T → Type 0) → (T → T → Type 0)
    → (T → List ℕ → T → Type 0) → (T → List ℕ → T → Type 0) → Type 0
ToldAreKept shows {D} {T} seen may_leave is_clean is_mixing hears is_deaf tells is_mute =
    (rounds : List Round) (r : Recording SessionState D) (d : T) (line : List ℕ) (t : Recording SessionState D) (e : T) (rest : List ℕ)
    → Sits (recorded_talk (answers shows) (λ s. s.script) seen may_leave is_clean is_mixing hears is_deaf tells is_mute) rounds r d line t e rest
    → IsKept seen may_leave is_clean r → IsKept seen may_leave is_clean t × IsBehind shows r.machine t.machine

-- a file has the records of a session that was told, or of one after it that answered some more lines; it opens, where the disks are
-- mixing, and begins that one again
pub record IsLeft (shows : Showings) {D : Type 0} (is_mixing : D → Bool) (told : SessionState) (file : List ℕ) : Type 0 where
  pub session : SessionState
  pub is : IsSession session
  pub behind : IsBehind shows told session
  pub records : HasRecords file session
  pub opens : IsMixing is_mixing → IsOpenable file
  pub again : (manner : Manner) → state_of file ≢ Other → IsAgain manner session (session_on manner None file)

-- whatever a sitting comes to, a crash leaves such a file of what it told
abbrev pub CrashesLeaveTold : Showings → {D T : Type 0} → (D → List ℕ) → (D → List ℕ → Type 0) → (D → Bool) → (D → Bool) → (T → List ℕ → T → Type 0) → (T → T → Type 0)
    → (T → List ℕ → T → Type 0) → (T → List ℕ → T → Type 0) → Type 0
CrashesLeaveTold shows {D} {T} seen may_leave is_clean is_mixing hears is_deaf tells is_mute =
    (r : Recording SessionState D) (d : T) (ending : Result Going SitFault) (t : Recording SessionState D) (e : T)
    (sat : HasSat (recorded_talk (answers shows) (λ s. s.script) seen may_leave is_clean is_mixing hears is_deaf tells is_mute) r d ending t e)
    → IsKept seen may_leave is_clean r → (file : List ℕ) → may_leave t.file file → IsLeft shows is_mixing sat.behind.machine file
