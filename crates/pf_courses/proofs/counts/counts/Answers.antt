use Rattle.std.proofs.Common.{◌∙◌}
use Rattle.std.proofs.lemmas.Result.{IfOk-weaker}
use Rattle.pf_courses.proofs.InUse.{counts_are}
use Rattle.pf_courses.proofs.counts.counts.Goals as goal

pub returns : goal.returns
returns c =
    IfOk-weaker c.counts_in_use.result _ _
    (λ v h. h ∙ counts_are c.args.scenario.now _ c.len.result c.args.rows.now c.args.denials.now c.len.ensures c.requires)
    c.counts_in_use.ensures
