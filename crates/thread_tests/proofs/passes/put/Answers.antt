use Rattle.std.specs.Result.{is_ok}
use Rattle.thread_tests.proofs.Boarded.{pushed}
use Rattle.thread_tests.proofs.passes.put.Goals as goal

pub returns : goal.returns
returns g c =
    pushed g.N.Naming.board.id c.push.new.self.items c.args.passes.now.items c.args.pass (is_ok c.push.result) c.push.ensures.items c.requires.passes c.requires.board
