use Rattle.std.proofs.Common.{sym, ap}
use Rattle.pf_desk.specs.Machine.{edit_reply}
use Rattle.pf_desk.specs.Applied.{state_in}
use Rattle.pf_desk.proofs.Applying.{refused_applied}
use Rattle.pf_desk.proofs.Uncounted.{counts_none}
use Rattle.pf_desk.proofs.scenario_run.ScenarioRun.edit.Goals as goal

pub returns-in-Err-clause-ok : goal.returns-in-Err-clause-ok
returns-in-Err-clause-ok c =
    refused_applied c.args.self.now _ _ c.requires
    (ap (edit_reply (state_in c.args.self.now) c.args.change c.args.strict) (sym c.in-Err.ensures.value))

pub returns-in-Err-clause-at_most : goal.returns-in-Err-clause-at_most
returns-in-Err-clause-at_most c = counts_none _ _
