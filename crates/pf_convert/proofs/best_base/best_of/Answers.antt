use Rattle.std.proofs.Common.{sym, subst, ◌+◌, take}
use Rattle.pf_convert.proofs.Rounding.{IsBestSoFar, item_passed, item_taken, best_of_all}
use Rattle.pf_convert.proofs.best_base.best_of.Goals as goal
use Rattle.pf_convert.proofs.best_base.best_of.Goals.{in-Some, in-None}

pub loop-divided-preserved : goal.loop-divided-preserved
loop-divided-preserved c =
    elim c.match-load_over.branch [
      | in-Some w ↦
          subst (λ o. IsBestSoFar c.args.tasks.now (take (c.loop-divided.divided-index + 1) c.args.bases.now) o) (sym w.best-is)
          (item_taken c.args.tasks.now c.args.bases.now c.loop-divided.divided-index c.divided-item.result c.loop-divided.best w.in-Some.load w.better.result
          c.loop-divided-test.true c.divided-item.is c.requires.bases w.in-Some.ensures w.better.ensures c.loop-divided.invariant)
      | in-None w ↦
          subst (λ o. IsBestSoFar c.args.tasks.now (take (c.loop-divided.divided-index + 1) c.args.bases.now) o) (sym w.best-is)
          (item_passed c.args.tasks.now c.args.bases.now c.loop-divided.divided-index c.divided-item.result c.loop-divided.best
          c.loop-divided-test.true c.divided-item.is w.in-None.ensures c.loop-divided.invariant)
    ]

pub returns : goal.returns
returns c =
    best_of_all c.args.tasks.now c.args.bases.now c.loop-divided.divided-index c.loop-divided.best c.loop-divided-test.false c.requires.bases
    c.loop-divided.invariant
