use Rattle.std.proofs.Common.{arith, refl}
use Rattle.pf_tally.proofs.Holding.{held_room, held_one, held_none}
use Rattle.pf_tally.proofs.held.held_delays.Goals as goal
use Rattle.pf_tally.proofs.held.held_delays.Goals.{in-Some+in_ok-push, in_default}

pub overflow_add-shift : goal.overflow_add-shift
overflow_add-shift c =
    let room = held_room _ _ c.args.events.now _ _ c.loop-numbered.numbered-index _ _ c.requires.delays c.loop-numbered.invariant (omega arith) c.in-Some.ensures in
    omega arith

pub loop-numbered-preserved : goal.loop-numbered-preserved
loop-numbered-preserved c = elim c.match-held_delay.branch [
  | in-Some+in_ok-push w ↦ rw (w.delays-is, w.shift-is)
      (held_one _ _ c.args.events.now _ _ _ _ c.loop-numbered.numbered-index _ _ (omega arith) w.in-Some.ensures w.in_ok-push.ensures.items refl c.loop-numbered.invariant)
  | in_default w ↦ rw (w.delays-is, w.shift-is)
      (held_none _ _ c.args.events.now _ _ c.loop-numbered.numbered-index _ (omega arith) w.in_default.ensures c.loop-numbered.invariant)
]
