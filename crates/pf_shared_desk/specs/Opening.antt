-- A shared desk that was just opened.
use Rattle.std.specs.Prelude.{ℕ, ◌≡◌, ◌⊎◌, ◌<◌, List, map, replicate}
use Rattle.pf_scenario.specs.System.{System}
use Rattle.pf_scenario.specs.Limits.{largest_distance}
use Rattle.pf_desk.specs.declared.entry.Entry.{Entry}
use Rattle.pf_board.specs.Passes.{Boarding, Passing, new_passes}
use Rattle.pf_shared_desk.specs.declared.opened.TheConstants.{MOST_CALLERS, MOST_READERS}
use Rattle.pf_shared_desk.specs.Calling.{Calling}
use Rattle.pf_shared_desk.specs.Reading.{Reading}

-- the distance of checkpoints, or the number of callers or readers, is out of its limits
abbrev pub IsBadOpening : (every callers readers : ℕ) → Type 0
IsBadOpening every callers readers =
    ((callers ≡ 0) ⊎ (MOST_CALLERS < callers)) ⊎ ((MOST_READERS < readers) ⊎ ((every ≡ 0) ⊎ (largest_distance < every)))

-- the caller of a board with this pass
abbrev pub caller_at : Boarding System → Passing Entry System → Calling
caller_at board pass = record { board = board; pass = pass }

-- so many callers of one board with these settings, numbered from 0, who have seen nothing yet
pub record AreNewCallers (settings : System) (n : ℕ) (callers : List Calling) : Type 0 where
  pub board : Boarding System
  pub terms : board.terms ≡ settings
  pub processors : board.processors ≡ settings.processors
  pub callers_are : callers ≡ map (caller_at board) (new_passes board.id settings n)

-- so many readers of a desk with these settings, who have read nothing yet
abbrev pub new_readers : System → ℕ → List Reading
new_readers settings n = replicate n (record { settings = settings; version = 0 })
