-- Sessions that begin again on what an earlier one left.
use Rattle.std.specs.Prelude.{ℕ, ⊤, ◌≡◌, ◌≢◌, ◌⊎◌, true, false, not, Option, None, Result, Ok, List, []}
use Rattle.pf_journal.specs.Lines.{records_of, state_of}
use Rattle.pf_journal.specs.declared.state.State.TheVariants.{Other}
use Rattle.pf_journal_session.specs.Journaled.{anew, session_on}
use Rattle.pf_journal.specs.Recorder.Recording.{records_in}
use Rattle.pf_answers.specs.declared.manner.Manner.{Manner}
use Rattle.pf_session_turns.specs.Opening.{opened}
use Rattle.pf_session.specs.Session.{SessionState}
use Rattle.pf_session.specs.Showings.{Showings}
use Rattle.pf_session_turns.specs.Sitters.{answers}
use Rattle.pf_stream.specs.Dialogue.Answered.{AnswersAll}

-- a session as one begins: without a line, or after a script or the records of a file; where it is kept, with nothing to take back
pub record IsBegun (s : SessionState) : Type 0 where
  pub manner : Manner
  pub script : Option (List ℕ)
  pub bytes : List ℕ
  pub session : SessionState
  pub begun : session_on manner script bytes ≡ Ok session
  pub is : (s ≡ session) ⊎ (s ≡ anew session)

-- whatever is shown
abbrev pub anything : Showings
anything wanted script made = ⊤

-- a session that answered some lines, and showed what `shows` says
pub record IsBehind (shows : Showings) (before s : SessionState) : Type 0 where
  pub lines : List (List ℕ)
  pub text : List ℕ
  pub answered : AnswersAll (answers shows) before lines text s

-- a session that began, and answered some lines, whatever it showed
pub record IsSession (s : SessionState) : Type 0 where
  pub first : SessionState
  pub begun : IsBegun first
  pub behind : IsBehind anything first s

-- the same session begun again: its settings and its desk, the names and the labels stay, and so does its script; what there is to take
-- back and to make again and whether a line was bad begin anew, and where there are no settings the heading may come again
abbrev pub again : Manner → SessionState → SessionState
again manner s = record {
  manner = manner;
  is_first = not s.course.progress.opened;
  course = s.course;
  held = s.held;
  script = s.script;
  made = [];
  undone = [];
  has_bad = false;
}

-- what begins is that session
abbrev pub IsAgain : Manner → SessionState → Result SessionState ℕ → Type 0
IsAgain manner s begun = (t : SessionState) × (begun ≡ Ok t) × (anew t ≡ again manner s)

-- the script of a session begins it again
abbrev pub ScriptsBeginAgain : Type 0
ScriptsBeginAgain = (manner : Manner) (s : SessionState) → IsSession s → s.course.progress.opened ≡ true → IsAgain manner s (opened manner s.script)

-- a file has the records of a session
abbrev pub HasRecords : List ℕ → SessionState → Type 0
HasRecords file s = records_of file ≡ records_in s.script

-- a journal that has the records of a session begins it again
abbrev pub JournalsBeginAgain : Type 0
JournalsBeginAgain =
    (manner : Manner) (s : SessionState) (file : List ℕ) → IsSession s → HasRecords file s → state_of file ≢ Other
    → IsAgain manner s (session_on manner None file)
