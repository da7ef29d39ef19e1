use Rattle.std.proofs.Common.{◌≡◌, ◌++◌, map, take, drop}
use Rattle.pf_c_api.proofs.room.fill.Given as goal

abbrev pub invariant-loop-k : goal.invariant-loop-k
invariant-loop-k g l = l.room ≡ map g.T.ForC.raw (take l.k l.list) ++ drop l.k l.fn.room
