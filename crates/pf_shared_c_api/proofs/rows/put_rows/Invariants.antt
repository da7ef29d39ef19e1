use Rattle.std.proofs.Common.{◌≡◌, ◌*◌, length}
use Rattle.pf_shared_c_api.specs.Rows.{HasRows}
use Rattle.pf_shared_c_api.proofs.rows.put_rows.Given as goal

abbrev pub invariant-loop-k : goal.invariant-loop-k
invariant-loop-k l =
    (l.at ≡ l.k * l.processors) × (length l.room ≡ length l.fn.room)
    × HasRows l.processors l.from l.k l.snapshot.rows l.fn.room l.room
