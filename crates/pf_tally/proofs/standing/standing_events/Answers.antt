use Rattle.pf_tally.proofs.InForce.{standing_are}
use Rattle.pf_tally.proofs.standing.standing_events.Goals as goal

pub returns : goal.returns
returns c = standing_are c.args.scenario.now _ _ _ c.args.now _ _ _ _ c.in_ok-denied.ensures c.deref-2.ensures.value c.in_ok-standing.ensures.items c.in_ok-events.ensures.value c.deref.ensures.value c.in_ok-keep.ensures
