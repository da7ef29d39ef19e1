-- Each turn takes a row off.
use Rattle.std.proofs.Common.{◌≡◌, ◌+◌, ◌-◌, ◌≤◌, length, take, ap, ◌∙◌, arith}
use Rattle.pf_place.specs.RunRows.{but_last}
use Rattle.pf_timeline.proofs.Fronts.{one_less}
use Rattle.pf_timeline.proofs.timeline.first_rows.Goals as goal

pub loop-preserved : goal.loop-preserved
loop-preserved c =
    let rows = c.args.rows.now in
    let k = length rows + c.args.count - (c.loop.counter + 1) in
    let more : length rows + c.args.count - c.loop.counter ≡ k + 1 = omega (arith, c.loop-test.true, c.len-end.ensures, c.loop.invariant.from) in
    record {
      first = c.pop.ensures
          ∙ ap but_last (c.loop.invariant.first ∙ ap (λ n. take n rows) more)
          ∙ one_less rows k (omega (arith, c.loop-test.true, c.len-end.ensures, c.loop.invariant.from));
      from = omega (arith, c.loop.invariant.from);
    }

pub returns : goal.returns
returns c =
    let within : c.args.count ≤ c.len-end.result = omega (arith, c.requires, c.len-end.ensures) in
    let all : length c.args.rows.now + c.args.count - c.loop.counter ≡ c.args.count =
    omega (arith, c.loop-test.false, c.loop.auto.counter-end within, c.len-end.ensures) in
    c.loop.invariant.first ∙ ap (λ n. take n c.args.rows.now) all
