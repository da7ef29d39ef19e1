-- What is left of a shared desk.
use Rattle.std.specs.Prelude.{ℕ, ◌≡◌, List}
use mathlib.Core.List.{IsPrefix}
use mathlib.Core.Option.{some}
use lib.ListN.{get_elem?}
use Rattle.pf_scenario.specs.System.{System}
use Rattle.pf_desk.specs.declared.entry.Entry.{Entry}
use Rattle.pf_desk.specs.Desk.{IsDesk, Shown}
use Rattle.pf_board.specs.Closed.{Closes}
use Rattle.pf_board.specs.Passes.{Boarding, Passing, calls_by}
use Rattle.pf_share.specs.declared.closed.Closed.{Closed}
use Rattle.pf_share.specs.Histories.{IsHistory, numbered, quanta_of, asks_step}

-- the desk keeps its promise, under the board's settings; and the board of these passes closes with the desk's history: what
-- each pass has seen begins it, the pass's own entries are those of its number there, and the quanta that are left and
-- those that were taken are its issues
pub record EndsDesk (board : Boarding System) (passes : List (Passing Entry System)) (c : Closed) : Type 0 where
  pub desk : IsDesk c.desk
  pub settings : c.desk.state.plan.settings ≡ board.terms
  pub closes : Closes quanta_of asks_step (IsHistory board.terms) board.processors board.passes (numbered c.desk.history) passes c.left.items

-- what each pass has seen begins the history, in which its own entries are exactly those of its number
abbrev pub AreFronts : List (ℕ × Entry) → List (Passing Entry System) → Type 0
AreFronts history passes =
    (k : ℕ) (p : Passing Entry System) → get_elem? passes k ≡ some p → IsPrefix p.seen history × (p.mine ≡ calls_by p.me history)

-- there is a desk that goes on: it keeps its promise, under the board's settings, and its history is the one that these
-- passes have seen beginnings of
pub record KeepsDesk (board : Boarding System) (passes : List (Passing Entry System)) : Type 0 where
  pub desk : Shown
  pub is_desk : IsDesk desk
  pub settings : desk.state.plan.settings ≡ board.terms
  pub fronts : AreFronts (numbered desk.history) passes
