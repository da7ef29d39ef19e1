use Rattle.shared_load.specs.Soak.Seated.{IsSeated}
use Rattle.shared_load.proofs.soak.worker.Worker.dispatch.Given as goal

abbrev pub invariant-loop : goal.invariant-loop
invariant-loop g l = IsSeated g.N.Naming.board g.N.Naming.book l.self
