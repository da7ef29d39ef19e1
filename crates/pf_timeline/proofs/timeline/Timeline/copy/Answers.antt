-- What is kept is of the scenario too.
use Rattle.pf_timeline.proofs.Grown.{keeps_now}
use Rattle.pf_timeline.proofs.Past.{keeps_standing}
use Rattle.pf_timeline.proofs.Points.{points_standing}
use Rattle.pf_timeline.proofs.timeline.Timeline.copy.Goals as goal

pub invariant_of-result : goal.invariant_of-result
invariant_of-result c =
    let keeps = keeps_standing _ _ _ _ _ _ _ _ _ c.self.invariant.run c.self.view_is c.requires in
    rw (c.of.ensures, c.in_ok-copy.ensures, c.in_ok-copy-2.ensures, c.in_ok-copy-3.ensures, c.in_ok-copy-4.ensures, c.in_ok-copy-5.ensures)
    (record {
      run = keeps_now _ _ _ _ _ keeps;
      points = points_standing _ _ _ _ _ _ _ _ _ _ c.self.invariant.run c.self.view_is c.requires c.self.invariant.points;
      near = points_standing _ _ _ _ _ _ _ _ _ _ c.self.invariant.run c.self.view_is c.requires c.self.invariant.near;
      few = c.self.invariant.few;
      from_start = c.self.invariant.from_start;
    })
