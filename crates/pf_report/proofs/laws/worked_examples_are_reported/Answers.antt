use Rattle.pf_report.proofs.Examples.{worked_reports}
use Rattle.pf_report.proofs.laws.worked_examples_are_reported.Goals as goal

pub returns : goal.returns
returns c = worked_reports
