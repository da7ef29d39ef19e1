use Rattle.std.proofs.Common.{arith, rules}
use Rattle.pf_report.specs.Quanta.{quanta_text}
use Rattle.pf_desk.proofs.Places.{length-rows}
use Rattle.pf_report.proofs.quanta.quanta_pieces.Goals as goal

pub invariant_of-rows : goal.invariant_of-rows
invariant_of-rows c =
    let seen = c.args.snapshot.now in
    (c.requires.order, omega (arith, c.requires.within, length-rows seen.state.plan _ seen.rows seen.denials c.now-now.ensures.of_run))

pub returns : goal.returns
unfolding quanta_text
returns c = search rules
