use Rattle.std.proofs.Common.{◌∙◌, ap}
use Rattle.pf_tally.proofs.Ledgers.{rows_known, ledger_made}
use Rattle.pf_tally.proofs.ledger.make_ledger.Goals as goal

pub quanta_by_task-requires : goal.quanta_by_task-requires
quanta_by_task-requires c =
    let known = c.in_ok-settings.ensures.settings in
    rows_known c.args.scenario.now _ c.args.rows.now c.args.denials.now c.requires (c.processors.ensures.value ∙ ap (λ settings. settings.processors) known)

pub returns : goal.returns
returns c =
    ledger_made c.args.scenario.now c.args.rows.now c.args.denials.now c.in_ok-settings.field-0 c.in_ok-quanta.quanta c.requires c.in_ok-settings.ensures c.in_ok-quanta.ensures
