use Rattle.std.proofs.Common.{◌∙◌, ◌+◌, ap, drop}
use Rattle.std.specs.Prelude.{max}
use Rattle.pf_convert.specs.Conversion.Script.{last_join}
use Rattle.pf_convert.proofs.ConversionLemmas.Joins.{join_looked_at, all_joins}
use Rattle.pf_convert.proofs.conversion.script.last_join.Goals as goal

pub returns : goal.returns
returns c = all_joins c.args.tasks.now c.loop-task.task-index c.loop-task.last c.loop-task-test.false c.loop-task.invariant

pub loop-task-preserved : goal.loop-task-preserved
loop-task-preserved c =
    ap (λ v. max v (last_join (drop (c.loop-task.task-index + 1) c.args.tasks.now))) c.max-last.ensures
    ∙ join_looked_at c.args.tasks.now c.loop-task.task-index c.loop-task.last _ c.loop-task-test.true c.loop-task.invariant
