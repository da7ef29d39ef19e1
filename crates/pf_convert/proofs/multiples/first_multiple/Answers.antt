use Rattle.std.proofs.Common.{arith}
use Rattle.pf_convert.proofs.Common.{first_is_least, none_at_all, turn_within}
use Rattle.pf_convert.proofs.multiples.first_multiple.Goals as goal

pub returns-then-multiple-b-eq0 : goal.returns-then-multiple-b-eq0
returns-then-multiple-b-eq0 c =
    first_is_least c.args.a c.args.b c.loop-k.k c.requires.first c.loop-k.invariant (turn_within c.args.a c.loop-k.k c.loop-k-test.true) c.if-multiple-b-eq0.true

pub returns : goal.returns
returns c = none_at_all c.args.a c.args.b c.requires.first (λ j lt. c.loop-k.invariant j (omega (arith, lt, c.loop-k-test.false)))
