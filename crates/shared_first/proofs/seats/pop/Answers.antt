use Rattle.std.proofs.Common.{[]}
use Rattle.std.proofs.lemmas.List.Elements.{All-pop}
use Rattle.shared_first.specs.Handed.{Took}
use Rattle.shared_first.proofs.seats.pop.Goals as goal

pub returns-clause-rest : goal.returns-clause-rest
returns-clause-rest g c = (All-pop (Took g.N.Naming.board.id []) c.args.passes.now.items c.pop.new.self.items c.pop.result c.pop.ensures.items c.requires).0

pub returns-clause-pass : goal.returns-clause-pass
returns-clause-pass g c = (All-pop (Took g.N.Naming.board.id []) c.args.passes.now.items c.pop.new.self.items c.pop.result c.pop.ensures.items c.requires).1
