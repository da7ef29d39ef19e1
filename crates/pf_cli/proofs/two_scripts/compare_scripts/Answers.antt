use Rattle.pf_arguments.specs.Asked.{names_of}
use Rattle.pf_cli.proofs.Comparing.{first_ends, first_stops}
use Rattle.pf_cli.proofs.two_scripts.compare_scripts.Goals as goal

pub returns-in-Ok-clause-done : goal.returns-in-Ok-clause-done
returns-in-Ok-clause-done g c =
    first_ends (names_of c.args.pair.now) c.args.telling c.in-Ok.before c.show_source-outcome.result.notes c.compare_behind.result _ _ _ _ _ _ _
    (rw c.in-Ok.is at c.show_source-outcome.ensures.shows) c.compare_behind.ensures.done c.compare_behind.ensures.writes

pub returns-in-Err-clause-done : goal.returns-in-Err-clause-done
returns-in-Err-clause-done g c =
    first_stops (names_of c.args.pair.now) c.args.telling c.in-Err.fault c.show_source-outcome.result.notes _ _ _ _ _ _
    (rw c.in-Err.is at c.show_source-outcome.ensures.shows) (rw c.in-Err.is at c.show_source-outcome.ensures.unwritten)
