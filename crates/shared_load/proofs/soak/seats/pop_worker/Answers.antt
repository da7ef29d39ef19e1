use Rattle.std.proofs.lemmas.List.Elements.{All-pop}
use Rattle.shared_load.specs.Soak.Seated.{IsSeated}
use Rattle.shared_load.proofs.soak.seats.pop_worker.Goals as goal

pub returns-clause-rest : goal.returns-clause-rest
returns-clause-rest g c =
    (All-pop (IsSeated g.N.Naming.board g.N.Naming.book) c.args.workers.now.items c.pop.new.self.items c.pop.result c.pop.ensures.items c.requires).0

pub returns-clause-worker : goal.returns-clause-worker
returns-clause-worker g c =
    (All-pop (IsSeated g.N.Naming.board g.N.Naming.book) c.args.workers.now.items c.pop.new.self.items c.pop.result c.pop.ensures.items c.requires).1
