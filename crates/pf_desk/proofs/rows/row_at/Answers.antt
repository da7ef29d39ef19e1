use Rattle.std.proofs.Common.{arith}
use Rattle.pf_tally.proofs.Noting.{got_none}
use Rattle.pf_desk.proofs.Places.{length-rows, length-row}
use Rattle.pf_desk.proofs.rows.row_at.Goals as goal

pub prove-unreachable-requires : goal.prove-unreachable-requires
prove-unreachable-requires c =
    let seen = c.args.snapshot.now in
    omega (arith, length-rows seen.state.plan _ seen.rows seen.denials c.now-now.ensures.of_run)

pub unreachable-requires : goal.unreachable-requires
unreachable-requires c = got_none c.args.snapshot.now.rows c.args.t (omega arith) c.in-None.ensures

pub returns-clause-long : goal.returns-clause-long
returns-clause-long c =
    let seen = c.args.snapshot.now in
    let n = length-rows seen.state.plan _ seen.rows seen.denials c.now-now.ensures.of_run in
    length-row seen.state.plan _ seen.rows seen.denials c.args.t _ c.now-now.ensures.of_run (omega (arith, n)) c.in-Some.ensures
