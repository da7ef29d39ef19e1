-- What a session shows, and what its script shows.
use Rattle.std.specs.Prelude.{ℕ, ◌≡◌, ◌≤◌, Some, List, length}
use Rattle.std.specs.Option.{option_map_or}
use Rattle.pf_plain_script.specs.Plain.{Plain, plain}
use Rattle.pf_session.specs.Session.{SessionState}
use Rattle.pf_session_laws.specs.Resumed.{IsSession}
use Rattle.pf_session_lines.specs.declared.showing.Showing.{Showing}
use Rattle.pf_session_lines.specs.declared.wanted.Wanted.{Wanted}
use Rattle.pf_session_views.specs.Held.{SessionShows}
use Rattle.pf_session_views.specs.Shown.{Shows}
use Rattle.pf_stream.specs.Reading.{longest_script}
use Rattle.pf_text.specs.Page.{table_text}

-- the script of version 2 that belongs to a plan is short enough
abbrev pub HasShortPlain : List ℕ → Type 0
HasShortPlain script = (p : Plain) → plain script ≡ Some p → length (table_text p.records) ≤ longest_script

-- how many slots a session's desk stepped; none before the settings
abbrev pub slots_stepped : SessionState → ℕ
slots_stepped s = option_map_or (λ c. c.state.now) s.held 0

-- what a session shows is what the program gives of its script, where that is short enough
abbrev pub SessionsShowTheirScripts : Type 0
SessionsShowTheirScripts =
    (w : Wanted) (s : SessionState) (showing : Showing) → IsSession s → HasShortPlain s.script → SessionShows w s showing → Shows (slots_stepped s) w s.script showing
