use Rattle.std.proofs.Common.{◌≡◌}
use Rattle.std.proofs.lemmas.List.Elements.{All-pop}
use Rattle.pf_share.specs.Locked.{origin_of}
use Rattle.pf_share.specs.Reads.{Viewing}
use Rattle.shared_load.proofs.soak.seats.pop_viewer.Goals as goal

pub returns-clause-rest : goal.returns-clause-rest
returns-clause-rest g c =
    (All-pop (λ (v : Viewing). v.origin ≡ origin_of g.N.Naming.board g.N.Naming.book) c.args.viewers.now.items c.pop.new.self.items c.pop.result c.pop.ensures.items c.requires).0

pub returns-clause-viewer : goal.returns-clause-viewer
returns-clause-viewer g c =
    (All-pop (λ (v : Viewing). v.origin ≡ origin_of g.N.Naming.board g.N.Naming.book) c.args.viewers.now.items c.pop.new.self.items c.pop.result c.pop.ensures.items c.requires).1
