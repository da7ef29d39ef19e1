use Rattle.std.proofs.Common.{arith}
use Rattle.pf_picture.specs.Grid.{grid_line}
use Rattle.pf_picture.proofs.Steps.{steps_next}
use Rattle.pf_picture.proofs.grid.push_grid.Goals as goal

pub loop-t-preserved : goal.loop-t-preserved
loop-t-preserved c = record {
  text = steps_next (grid_line c.args.scale c.args.bottom) c.args.scale.from c.loop-t.t c.args.text.now.items c.loop-t.text.items _ c.loop-t.invariant.from c.in_ok-push_grid_line.ensures c.loop-t.invariant.text;
  from = omega (arith, c.loop-t.invariant.from);
  short = omega (arith, c.loop-t-test.true);
}
