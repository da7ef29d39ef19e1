use Rattle.std.proofs.Common.{◌≡◌}
use Rattle.pf_drill.specs.Gates.{IsToldOf}
use Rattle.pf_drill.proofs.worker.Worker.stay.Given as goal

-- the pass is of the board, and what will be told is so
abbrev pub invariant-loop : goal.invariant-loop
invariant-loop g l = record {
  board : l.self.pass.board ≡ g.N.Naming.board.id;
  told : IsToldOf (g.G.Gate.lets_in l.gate) (g.G.Gate.shuts_out l.gate) l.shift;
}
