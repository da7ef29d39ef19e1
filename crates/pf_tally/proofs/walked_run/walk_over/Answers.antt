use Rattle.std.proofs.Common.{ap}
use Rattle.pf_tally.proofs.Journals.{walk_known}
use Rattle.pf_tally.proofs.Ledgers.{rows_known}
use Rattle.pf_tally.proofs.walked_run.walk_over.Goals as goal

pub walk_run-requires-clause-rows : goal.walk_run-requires-clause-rows
walk_run-requires-clause-rows c =
    let known = c.in_ok-journal.ensures.settings in
    rows_known c.args.scenario.now _ c.args.rows.now c.args.denials.now c.requires (ap (λ settings. settings.processors) known)

pub returns : goal.returns
returns c = walk_known c.args.scenario.now c.args.rows.now c.args.denials.now _ c.deref.result.now c.requires c.in_ok-journal.ensures c.deref.ensures.value c.in_ok-walk.ensures
