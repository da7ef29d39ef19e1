use Rattle.std.proofs.Common.{ap, sym, ◌∙◌}
use Rattle.std.proofs.lemmas.Result.{err_from_is_err_and}
use Rattle.std.specs.Prelude.{option_map}
use Rattle.pf_stream.proofs.Sending.{none_written}
use Rattle.pf_vocabulary.specs.Options.Formats.{range_fault}
use Rattle.pf_formats.specs.Report.{report_text}
use Rattle.pf_commands.specs.Refusals.{refusals_for}
use Rattle.pf_commands.proofs.Answering.{report_stopped}
use Rattle.pf_commands.proofs.run.write_report.Goals as goal

pub returns-in_err-refusals-clause-report : goal.returns-in_err-refusals-clause-report
returns-in_err-refusals-clause-report g c =
    let p = err_from_is_err_and c.from_residual.result c.from_residual.ensures.1 in rw (p.1, p.2) (none_written _ _)

pub returns-in_err-snapshot-clause-report : goal.returns-in_err-snapshot-clause-report
returns-in_err-snapshot-clause-report g c =
    let p = err_from_is_err_and c.from_residual-in_err-snapshot.result c.from_residual-in_err-snapshot.ensures.1 in rw (p.1, p.2) (none_written _ _)

pub returns-in_err-written-clause-report : goal.returns-in_err-written-clause-report
returns-in_err-written-clause-report g c =
    let p = err_from_is_err_and c.from_residual-in_err-written.result c.from_residual-in_err-written.ensures.1 in
    let e = c.in_ok-snapshot.ensures in
    let told = ap (report_text c.args.format c.distance.result c.in_ok-snapshot.snapshot c.args.titles.now) c.in_ok-refusals.ensures in
    let fits = ap (range_fault c.args.format) (sym c.now.ensures.value) ∙ sym c.in_default.ensures in
    rw (p.1, p.2) (report_stopped c.args.format c.args.titles.now (refusals_for c.args.format (option_map (λ o. o.now) c.args.origins) c.args.bytes.now) c.args.desk.now fits c.distance.result c.distance.ensures.value c.in_ok-snapshot.snapshot e.stands e.shown _ told _ _ _ c.in_err-written.ensures.err)
