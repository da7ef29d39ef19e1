-- What one caller at a time has of a shared desk.
use Rattle.std.specs.Prelude.{◌≡◌, true, []}
use Rattle.pf_scenario.specs.System.{System}
use Rattle.pf_desk.specs.Desk.{IsDesk}
use Rattle.pf_board.specs.Passes.{Boarding}
use Rattle.pf_desk_board.specs.Histories.{numbered}
use Rattle.pf_shared_desk.specs.declared.desk_core.DeskCore.{DeskCore}

-- the desk keeps its promise, and the keeper of its board has seen its history, with no turn out and no load that was not
-- reported
pub record IsKept (board : Boarding System) (core : DeskCore) : Type 0 where
  pub is_desk : IsDesk core.desk
  pub settings : core.desk.state.plan.settings ≡ board.terms
  pub processors : board.processors ≡ board.terms.processors
  pub keeper_board : core.keeper.board ≡ board.id
  pub has_turn : core.keeper.has_turn ≡ true
  pub no_loads : core.keeper.loads ≡ []
  pub seen : core.keeper.seen ≡ numbered core.desk.history

-- and nothing is left to issue: so it lies where the next caller finds it
pub record IsCore (board : Boarding System) (core : DeskCore) : Type 0 where
  pub is_kept : IsKept board core
  pub none_left : core.keeper.left ≡ []
