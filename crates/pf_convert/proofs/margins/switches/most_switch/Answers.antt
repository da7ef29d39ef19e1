use Rattle.std.proofs.Common.{arith}
use Rattle.pf_convert.proofs.MarginsLemmas.Switches.{most_switch, no_switch}
use Rattle.pf_convert.proofs.margins.switches.most_switch.Goals as goal

pub returns-then-not-has_room : goal.returns-then-not-has_room
returns-then-not-has_room c =
    no_switch c.args.processors c.args.quantum c.args.times.now c.args.plan.now
    (λ h. absurd (cc (c.has_room.ensures.1 h, c.if-not-has_room.true)))

pub returns : goal.returns
returns c =
    most_switch c.args.processors c.args.quantum c.args.times.now c.args.plan.now c.loop-above.least c.loop-above.above (omega arith)
    c.loop-above.invariant.room c.loop-above.invariant.none
