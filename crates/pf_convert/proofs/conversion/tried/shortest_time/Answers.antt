use Rattle.std.proofs.Common.{◌∙◌, ◌+◌, min, drop, ap, arith}
use Rattle.pf_convert.specs.declared.list.listed.Listed.{Listed}
use Rattle.pf_convert.specs.Slots.{due_of}
use Rattle.pf_convert.specs.Conversion.Series.{shortest_time}
use Rattle.pf_convert.proofs.ConversionLemmas.Shortest.{all_times, none_looked_at, time_looked_at}
use Rattle.pf_convert.proofs.conversion.tried.shortest_time.Goals as goal

pub loop-task-init : goal.loop-task-init
loop-task-init c = record { least = none_looked_at c.args.tasks.now; short = omega arith }

pub loop-task-preserved : goal.loop-task-preserved
loop-task-preserved c =
    let tasks = c.args.tasks.now in
    let i = c.loop-task.task-index in
    let shortest = c.loop-task.shortest in
    record {
      least =
          ap (λ v. min v (shortest_time (drop (i + 1) tasks)))
          (c.lesser-shortest.ensures ∙ ap (λ d. min shortest d) (c.due.ensures ∙ ap (λ (t : Listed). due_of t.times) c.task-item.is))
          ∙ time_looked_at tasks i shortest c.task-item.result c.loop-task-test.true c.loop-task.invariant.least;
      short = omega (arith, c.lesser-shortest.ensures, c.loop-task.invariant.short);
    }

pub returns-clause-value : goal.returns-clause-value
returns-clause-value c =
    all_times c.args.tasks.now c.loop-task.task-index c.loop-task.shortest c.loop-task-test.false c.loop-task.invariant.short c.loop-task.invariant.least
