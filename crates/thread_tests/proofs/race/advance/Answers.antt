use Rattle.thread_tests.proofs.Stepping.{fresh_after}
use Rattle.thread_tests.proofs.race.advance.Goals as goal

pub returns-in-Some-clause-fresh : goal.returns-in-Some-clause-fresh
returns-in-Some-clause-fresh c = fresh_after c.args.next c.args.keeper.now.seen c.enter.new.keeper.seen c.args.pass.now.me c.in-Some.ensures.some c.requires.fresh
