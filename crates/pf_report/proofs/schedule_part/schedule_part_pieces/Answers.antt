use Rattle.std.proofs.Common.{arith, rules}
use Rattle.pf_report.specs.Part.{schedule_part_text}
use Rattle.pf_desk.proofs.Places.{length-rows}
use Rattle.pf_report.proofs.schedule_part.schedule_part_pieces.Goals as goal

pub invariant_of-rows : goal.invariant_of-rows
invariant_of-rows c =
    let seen = c.args.snapshot.now in
    (c.requires.order, omega (arith, c.requires.within, length-rows seen.state.plan _ seen.rows seen.denials c.now-now.ensures.of_run))

pub returns : goal.returns
unfolding schedule_part_text
returns c = search rules
