-- One more worker with a seat.
use Rattle.std.proofs.Common.{◌≡◌, List, [], ◌∷◌, ◌++◌}
use Rattle.std.specs.Prelude.{All}
use Rattle.std.proofs.lemmas.List.Elements.{All-push, All-same}
use Rattle.logbook.specs.Pages.{Book}
use Rattle.pf_scenario.specs.System.{System}
use Rattle.pf_board.specs.Passes.{Boarding}
use Rattle.shared_load.specs.declared.soak.worker.Worker.{Worker}
use Rattle.shared_load.specs.Soak.Seated.{IsSeated}

pub more_seated : (board : Boarding System) (book : Book) (all ws : List Worker) (w : Worker) → all ≡ ws ++ w ∷ [] → All (IsSeated board book) ws → IsSeated board book w → All (IsSeated board book) all
more_seated board book all ws w e here is =
    All-same (IsSeated board book) all (ws ++ w ∷ []) e (All-push (IsSeated board book) ws w here is)
