use Rattle.std.proofs.Common.{◌∙◌, arith, ap}
use Rattle.pf_run.specs.Inside.{Joined}
use Rattle.pf_verdict.specs.declared.stretch.Stretch.{Stretch}
use Rattle.pf_verdict.proofs.Least.{begun, ended, met, missed}
use Rattle.pf_verdict.proofs.grow.least_left.Goals as goal
use Rattle.pf_verdict.proofs.grow.least_left.Goals.{then-max-min, else-max-min}

pub loop-stretch-init : goal.loop-stretch-init
loop-stretch-init c = record {
  within = omega arith;
  least = λ s r n base cap cover even. (0, (cover, begun s r c.args.task c.args.last c.args.most base));
}

pub loop-stretch-preserved : goal.loop-stretch-preserved
loop-stretch-preserved c = record {
  within = elim c.if-max-min.branch [ then-max-min w ↦ omega (arith, c.loop-stretch.invariant.within) | else-max-min w ↦ omega (arith, c.loop-stretch.invariant.within) ];
  least = λ s r n base cap cover even.
      let so_far = c.loop-stretch.invariant.least s r n base cap cover even in
      let none : Stretch = record { from = 0; to = 0; load = 0; room = 0 } in
      elim c.if-max-min.branch [
        | then-max-min w ↦
            met s r n c.args.task c.args.last c.loop-stretch.stretch-index c.args.stretches.now none c.loop-stretch.least (omega arith) even so_far
            c.max.result c.min.result w.min-then-max-min.result w.saturating_sub-left.result c.if-max-min.least
            (omega (arith, c.max.ensures, ap (λ (j : Joined). j.slot) c.task.view_is)) c.min.ensures
            w.if-max-min.true (omega (arith, w.min-then-max-min.ensures, cap))
            (omega (arith, w.saturating_sub-left.ensures, c.units-units.ensures.value, ap (λ (j : Joined). j.weight.units) c.task.view_is))
            (w.least-is ∙ w.min-least.ensures)
        | else-max-min w ↦
            missed s r n c.args.task c.args.last c.loop-stretch.stretch-index c.args.stretches.now none c.loop-stretch.least (omega arith) even so_far
            c.max.result c.min.result c.if-max-min.least
            (omega (arith, c.max.ensures, ap (λ (j : Joined). j.slot) c.task.view_is)) c.min.ensures w.if-max-min.false w.least-is
      ];
}

pub returns-clause-least : goal.returns-clause-least
returns-clause-least c =
    λ s r n base cap cover even.
    ended s r n c.args.task c.args.last c.loop-stretch.stretch-index c.args.stretches.now c.loop-stretch.least (omega arith)
    (c.loop-stretch.invariant.least s r n base cap cover even)
