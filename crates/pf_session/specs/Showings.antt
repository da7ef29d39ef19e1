-- What is shown of sessions.
use Rattle.pf_session.specs.Session.{SessionState}
use Rattle.pf_session_lines.specs.declared.showing.Showing.{Showing}
use Rattle.pf_session_lines.specs.declared.wanted.Wanted.{Wanted}

-- of what is wanted this is shown of a session
abbrev pub Showings : Type 1
Showings = Wanted → SessionState → Showing → Type 0
