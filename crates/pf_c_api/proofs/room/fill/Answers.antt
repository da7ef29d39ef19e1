use Rattle.std.proofs.Common.{◌≤◌, length, arith}
use Rattle.pf_c_api.proofs.Filling.{filled_more}
use Rattle.pf_c_api.proofs.room.fill.Goals as goal

pub loop-k-preserved : goal.loop-k-preserved
loop-k-preserved g c =
    let long : length c.args.list.now ≤ length c.args.room.now = omega (arith, c.if-room-list.false) in
    filled_more g.T.ForC.raw c.args.list.now c.args.room.now c.loop-k.room c.loop-k.k _ _ c.loop-k-test.true long c.index-list-k.is
    c.for_c.ensures c.loop-k.invariant
