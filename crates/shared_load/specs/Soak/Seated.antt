-- A worker of a shared desk.
use Rattle.std.specs.Prelude.{◌≡◌}
use Rattle.logbook.specs.Pages.{Book}
use Rattle.pf_scenario.specs.System.{System}
use Rattle.pf_board.specs.Passes.{Boarding}
use Rattle.pf_share.specs.Locked.{origin_of}
use Rattle.shared_load.specs.declared.soak.worker.Worker.{Worker}

-- its pass and its viewer are the desk's
abbrev pub IsSeated : Boarding System → Book → Worker → Type 0
IsSeated board book w = (w.pass.board ≡ board.id) × (w.viewer.origin ≡ origin_of board book)
