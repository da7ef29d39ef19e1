use Rattle.pf_timeline.specs.Timeline.{StandsFor}
use Rattle.desk_tests.proofs.base.timeline.four_slots.Given as goal

abbrev pub invariant-loop : goal.invariant-loop
invariant-loop g l = StandsFor l.scenario l.timeline.now l.timeline
