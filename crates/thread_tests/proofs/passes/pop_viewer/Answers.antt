use Rattle.std.proofs.Common.{◌≡◌}
use Rattle.std.proofs.lemmas.List.Elements.{All-pop}
use Rattle.pf_share.specs.Locked.{origin_of}
use Rattle.pf_share.specs.Reads.{Viewing}
use Rattle.thread_tests.proofs.passes.pop_viewer.Goals as goal

pub returns : goal.returns
returns g c =
    (All-pop (λ (v : Viewing). v.origin ≡ origin_of g.N.Naming.board g.N.Naming.book) c.args.viewers.now.items c.pop.new.self.items c.pop.result c.pop.ensures.items c.requires).1
