use Rattle.std.proofs.Common.{◌+◌, ◌-◌, ◌/◌, arith}
use Rattle.pf_convert.proofs.Stretches.{up_to_one, one_and_on}
use Rattle.pf_convert.proofs.best_base.index_after.Goals as goal

pub halves-preserved-then-tasks-middle : goal.halves-preserved-then-tasks-middle
halves-preserved-then-tasks-middle c = (
  omega (arith, c.halves.invariant.0),
  omega (arith, c.halves-test.true),
  c.halves.invariant.2,
  up_to_one c.args.tasks.now (c.args.from + 1) (c.halves.low + (c.halves.high - c.halves.low) / 2) c.args.end _
      (omega (arith, c.halves-test.true, c.halves.invariant.2)) c.requires.rising c.if-tasks-middle.true,
  c.halves.invariant.4,
)

pub halves-preserved : goal.halves-preserved
halves-preserved c = (
  c.halves.invariant.0,
  omega (arith, c.halves-test.true),
  omega (arith, c.halves-test.true, c.halves.invariant.2),
  c.halves.invariant.3,
  one_and_on c.args.tasks.now (c.halves.low + (c.halves.high - c.halves.low) / 2) c.args.end _ c.requires.rising c.if-tasks-middle.false,
)
