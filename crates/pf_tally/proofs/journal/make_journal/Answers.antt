use Rattle.std.proofs.Common.{◌∙◌, ap, subst, List}
use Rattle.pf_scenario.specs.Scenario.{past}
use Rattle.pf_scenario.specs.declared.event.Numbered.{Numbered}
use Rattle.pf_run.specs.Record.{in_force}
use Rattle.pf_tally.specs.Own.{AreDiaries}
use Rattle.pf_tally.proofs.Ledgers.{journal_made}
use Rattle.pf_tally.proofs.journal.make_journal.Goals as goal

pub returns : goal.returns
returns c =
    let P : List Numbered → Type 0 = λ xs. AreDiaries xs c.in_ok-diaries.diaries in
    journal_made c.args.scenario.now c.args.rows.now c.args.denials.now _ c.requires c.settings-settings.ensures.value c.len-now.ensures
    (c.in_ok-events.ensures ∙ ap (λ n. in_force c.args.denials.now (past c.args.scenario.now n)) c.len-now.ensures)
    (subst P c.deref.ensures.value c.in_ok-diaries.ensures)
