use Rattle.pf_text.proofs.ColumnsLemmas.Places.{one_more, small_quotient}
use Rattle.std.proofs.Common.{arith}
use Rattle.pf_text.proofs.columns.decimals.parts_of.Goals as goal

pub loop-preserved : goal.loop-preserved
loop-preserved c = one_more c.args.a c.args.b c.loop.counter c.loop.parts c.loop.rest c.requires.some c.loop.invariant

pub returns-clause-small : goal.returns-clause-small
returns-clause-small c =
    small_quotient c.args.a c.args.b c.loop.counter c.loop.parts c.loop.rest (omega (arith, c.requires.few, c.loop.auto.counter-end)) c.loop.invariant
