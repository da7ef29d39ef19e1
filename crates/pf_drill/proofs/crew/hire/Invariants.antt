use Rattle.std.proofs.Common.{◌≡◌, ◌<◌, ℕ}
use Rattle.std.specs.Prelude.{slice_index_or, vec_len}
use Rattle.std.specs.Vec.Iter.{into_iter_items}
use Rattle.pf_drill.specs.Rounds.{AreOfBoard}
use Rattle.pf_drill.proofs.crew.hire.Given as goal

-- the passes left are of the board, and each worker started promised what the gate says
abbrev pub invariant-loop-pass : goal.invariant-loop-pass
invariant-loop-pass g l = record {
  left : AreOfBoard g.N.Naming.board.id (into_iter_items l.pass-iterator);
  hired : (k : ℕ) (d : _) → k < vec_len l.hired → (slice_index_or l.hired.items k d).promise.gate.now ≡ l.gate;
}
