use Rattle.std.proofs.Common.{◌≡◌, ◌⊎◌, ◌≤◌, ◌-◌, ◌+◌}
use Rattle.pf_order.specs.Counted.{CountsAtMost}
use Rattle.pf_timeline.specs.Checkpoints.{near_slots}
use Rattle.pf_timeline.specs.Timeline.{StandsFor}
use Rattle.pf_timeline.proofs.timeline.Timeline.rewritten.Given as goal

abbrev pub invariant-loop : goal.invariant-loop
invariant-loop l = record {
  stands : StandsFor l.scenario l.counter l.fresh;
  counted : CountsAtMost (l.counter - l.initial.fresh.now) l.initial.meter l.meter;
  from : l.initial.fresh.now ≤ l.counter;
  every : l.fresh.every ≡ l.self.every;
  near : (l.fresh.near ≤ l.self.near) ⊎ (l.fresh.near + near_slots ≤ l.counter);
  compared : l.initial.meter.compared ≤ l.meter.compared;
}
