use Rattle.std.proofs.Common.{arith}
use Rattle.pf_verdict.proofs.Strained.{none_strained, step}
use Rattle.pf_verdict.proofs.strain.strain_of.Goals as goal

pub loop-stretch-init : goal.loop-stretch-init
loop-stretch-init c = (0, (c.requires, omega arith, λ s r even. none_strained s r))

pub loop-stretch-preserved : goal.loop-stretch-preserved
loop-stretch-preserved c =
    let inv = c.loop-stretch.invariant in
    step inv.0 c.args.now c.loop-stretch.stretch-index c.args.stretches.now _ c.loop-stretch.strain c.with-strain.result (omega arith)
    inv.1.0 inv.1.1 inv.1.2 c.with-strain.ensures
