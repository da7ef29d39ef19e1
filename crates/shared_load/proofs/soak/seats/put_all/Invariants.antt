use Rattle.std.specs.Prelude.{All}
use Rattle.pf_board.specs.Passes.{AreOf}
use Rattle.shared_load.specs.Soak.Seated.{IsSeated}
use Rattle.shared_load.proofs.soak.seats.put_all.Given as goal

-- those that are still seated, and the passes that came back
abbrev pub invariant-loop : goal.invariant-loop
invariant-loop g l = record {
  workers : All (IsSeated g.N.Naming.board g.N.Naming.book) l.workers.items;
  passes : AreOf g.N.Naming.board.id l.back.passes.items;
}
