use Rattle.std.specs.Prelude.{option_to_list}
use Rattle.shared_load.proofs.SoakLemmas.Boarded.{front_of, last_of}
use Rattle.shared_load.proofs.soak.seats.pop.Goals as goal

pub returns-clause-rest : goal.returns-clause-rest
returns-clause-rest g c =
    front_of g.N.Naming.board.id c.args.passes.now.items c.pop.new.self.items (option_to_list c.pop.result) c.pop.ensures.items c.requires

pub returns-clause-board : goal.returns-clause-board
returns-clause-board g c =
    last_of g.N.Naming.board.id c.args.passes.now.items c.pop.new.self.items c.pop.result c.pop.ensures.items c.requires
