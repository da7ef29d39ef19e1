use Rattle.std.proofs.Common.{◌∙◌}
use Rattle.std.proofs.lemmas.Result.{IfOk-weaker}
use Rattle.pf_courses.proofs.OfRun.{of_run, same_counts}
use Rattle.pf_picture.proofs.picture.counts_of.Goals as goal

pub counts-requires : goal.counts-requires
counts-requires c =
    of_run c.now.ensures.of_run c.scenario.ensures c.rows.ensures c.denials.ensures

pub returns : goal.returns
returns c =
    IfOk-weaker c.counts.result _ _
    (λ v h. h ∙ same_counts c.now.ensures.of_run c.scenario.ensures c.rows.ensures c.denials.ensures)
    c.counts.ensures
