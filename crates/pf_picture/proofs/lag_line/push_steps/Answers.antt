use Rattle.std.proofs.Common.{◌≡◌, ◌∙◌, ◌+◌, ◌-◌, ◌++◌, ap, arith}
use Rattle.std.specs.List.{flat_map, range_with_len}
use Rattle.pf_picture.specs.Lines.{lag_step}
use Rattle.pf_picture.proofs.Steps.{steps_next}
use Rattle.pf_picture.proofs.lag_line.push_steps.Goals as goal

pub loop-t-preserved : goal.loop-t-preserved
loop-t-preserved c = record {
  steps = steps_next (lag_step c.args.lane.now c.args.course.now) (c.args.first + 1) c.loop-t.t c.args.text.now.items c.loop-t.text.items _ (omega arith)
      c.in_ok-push_step.ensures c.loop-t.invariant.steps;
  short = omega (arith, c.loop-t-test.true);
}

pub returns : goal.returns
returns c =
    c.loop-t.invariant.steps
    ∙ ap (λ n. c.args.text.now.items ++ flat_map (lag_step c.args.lane.now c.args.course.now) (range_with_len (c.args.first + 1) n))
    (let z : c.loop-t.t - (c.args.first + 1) ≡ c.args.last - c.args.first = omega (arith, c.loop-t-test.false, c.loop-t.invariant.short) in z)
