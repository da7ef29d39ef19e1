-- How a sitter answers.
use Rattle.std.specs.Prelude.{ℕ, ◌≡◌, List}
use Rattle.pf_session.specs.Session.{SessionState}
use Rattle.pf_session.specs.Showings.{Showings}
use Rattle.pf_stream.specs.declared.dialogue.answers.Going.{Going}
use Rattle.pf_session_turns.specs.Turns.{AnswersLine, IsStopped}

-- a line is answered as its session answers it; no contract says which files could be written
abbrev pub answers : Showings → SessionState → List ℕ → List ℕ → Going → SessionState → Type 0
answers shows s line text going t = AnswersLine shows {S = Unit {0}} (λ v file bytes is_saved w. Unit {0}) s tt line going text t tt

-- a session that could not answer a line is as before, or in mid-change
abbrev pub stops : SessionState → SessionState → Type 0
stops s t = (line : List ℕ) × IsStopped s line t

-- it keeps nothing, and that does not fail
abbrev pub keeps : SessionState → SessionState → Type 0
keeps s t = t ≡ s

abbrev pub loses : SessionState → SessionState → Type 0
loses s t = ⊥
