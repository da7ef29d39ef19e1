use Rattle.pf_script.specs.PlanCheck.Reports.{plan_reason_text}
use Rattle.pf_script.proofs.plan_check.report.push_reason.Goals as goal

pub returns-in-NoTask : goal.returns-in-NoTask
unfolding plan_reason_text
returns-in-NoTask c = rw c.in-NoTask.is c.push_shown-in-NoTask.ensures

pub returns-in-NoLabel : goal.returns-in-NoLabel
unfolding plan_reason_text
returns-in-NoLabel c = rw c.in-NoLabel.is c.push_shown-in-NoLabel.ensures
