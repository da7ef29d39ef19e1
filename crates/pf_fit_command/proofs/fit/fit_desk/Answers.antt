use Rattle.std.proofs.Common.{rules, ◌≡◌}
use Rattle.pf_fit_command.specs.Fit.{status_of_verdict}
use Rattle.pf_fit_command.proofs.Made.{made}
use Rattle.pf_fit_command.proofs.fit.fit_desk.Goals as goal

pub returns-clause-made : goal.returns-clause-made
returns-clause-made c =
    let commands : c.commands-commands.result ≡ c.in_ok-recount.recount.refusals.commands = search rules in
    let status : c.status_of-status.result ≡ status_of_verdict c.in_ok-findings.findings.verdict = search rules in
    made c.args.format c.args.file.now c.args.hints _ c.args.titles.now c.args.script.now c.args.desk.now c.in_ok-snapshot.snapshot c.in_ok-recount.recount
    c.in_ok-findings.findings c.commands-commands.result c.status_of-status.result _ c.requires c.in_ok-snapshot.ensures.stands c.in_ok-snapshot.ensures.shown
    c.in_ok-recount.ensures c.in_ok-text.ensures commands c.in_ok-findings.ensures.found status c.quiet-ending.ensures
