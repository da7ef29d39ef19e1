-- What lies under the lock.
use Rattle.std.specs.Prelude.{◌≡◌, true, []}
use Rattle.logbook.specs.Pages.{Book}
use Rattle.pf_scenario.specs.System.{System}
use Rattle.pf_desk.specs.declared.entry.Entry.{Entry}
use Rattle.pf_desk.specs.Desk.{Shown, IsDesk}
use Rattle.pf_board.specs.Passes.{Boarding, Keeping}
use Rattle.pf_share.specs.Histories.{numbered}
use Rattle.pf_share.specs.Stories.{Origin, Stamped}

-- where the histories of a desk with this board and this book are from
abbrev pub origin_of : Boarding System → Book → Origin
origin_of board book = record { book = book; settings = board.terms }

-- a desk whose history is shown: the desk, and what its keeper knows
pub record Showing : Type 0 where
  pub desk : Shown
  pub keeper : Keeping Entry System

-- the desk keeps its promise; the keeper has seen its history, with no turn out and no load that wasn't reported; and that history is what is shown
pub record IsShownDesk (board : Boarding System) (book : Book) (desk : Shown) (keeper : Keeping Entry System) (press : Book) (stamp shown : Stamped) : Type 0 where
  pub is_desk : IsDesk desk
  pub settings : desk.state.plan.settings ≡ board.terms
  pub processors : board.processors ≡ board.terms.processors
  pub keeper_board : keeper.board ≡ board.id
  pub has_turn : keeper.has_turn ≡ true
  pub no_loads : keeper.loads ≡ []
  pub seen : keeper.seen ≡ numbered desk.history
  pub press_book : press ≡ book
  pub stamp_is : stamp ≡ record { origin = origin_of board book; history = desk.history }
  pub is_shown : shown ≡ stamp

-- and nothing is left to issue: so the desk lies under the lock
pub record IsLocked (board : Boarding System) (book : Book) (desk : Shown) (keeper : Keeping Entry System) (press : Book) (stamp shown : Stamped) : Type 0 where
  pub is_shown_desk : IsShownDesk board book desk keeper press stamp shown
  pub none_left : keeper.left ≡ []
