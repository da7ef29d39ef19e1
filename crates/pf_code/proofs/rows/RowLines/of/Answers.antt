use Rattle.std.proofs.Common.{◌∙◌, ◌-◌, ap, take, arith}
use Rattle.std.proofs.lemmas.List.{length-drop, length-take-le}
use Rattle.pf_courses.proofs.OfRun.{length-rows}
use Rattle.pf_code.proofs.rows.RowLines.of.Goals as goal

pub invariant_of-result : goal.invariant_of-result
invariant_of-result c = (c.requires.order, omega (arith, c.requires.within, length-rows c.now-now.ensures.of_run))

pub returns-clause-long : goal.returns-clause-long
returns-clause-long c =
    let rows = c.args.snapshot.now.rows in
    let to = c.args.to in
    length-drop c.args.from (take to rows)
    ∙ ap (λ n. n - c.args.from) (length-take-le to rows (omega (arith, c.requires.within, length-rows c.now-now.ensures.of_run)))
