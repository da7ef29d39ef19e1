use Rattle.std.proofs.Common.{◌∙◌, ap, filter_map}
use Rattle.pf_run.specs.Inside.{join_of}
use Rattle.pf_tally.specs.Figures.{processors_in}
use Rattle.pf_tally.specs.Lags.{by_task}
use Rattle.pf_tally.proofs.Ledgers.{rows_known}
use Rattle.pf_courses.proofs.OfRun.{ledger_of, of_run}
use Rattle.pf_trace.proofs.run_ledger.run_ledger.Goals as goal

pub make_ledger-requires : goal.make_ledger-requires
make_ledger-requires c =
    of_run c.now.ensures.of_run c.scenario.ensures c.rows-rows.ensures c.denials.ensures

pub processors_by_task-requires : goal.processors_by_task-requires
processors_by_task-requires c =
    let of = of_run c.now.ensures.of_run c.scenario.ensures c.rows-rows.ensures c.denials.ensures in
    rows_known c.scenario.result.now _ c.rows-rows.result.now c.denials.result.now of
    (c.processors.ensures.value ∙ ap (λ settings. settings.processors) c.in_ok-ledger.ensures.settings)

pub returns : goal.returns
returns c =
    let ledger = c.in_ok-ledger.ledger in
    record {
      ledger = ledger_of c.now.ensures.of_run c.scenario.ensures c.rows-rows.ensures c.denials.ensures ledger
          c.in_ok-ledger.ensures;
      admitted = c.in_ok-admitted.ensures ∙ ap (λ xs. by_task (filter_map (join_of ledger.settings.base) xs)) c.deref.ensures.value;
      processors = λ task. c.in_ok-processors.ensures task ∙ ap (λ rows. processors_in rows task) c.rows-rows.ensures;
    }
