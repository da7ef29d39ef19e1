use Rattle.std.proofs.lemmas.Result.{on_ok_weaker}
use Rattle.pf_convert.proofs.conversion.series.plan_next.Goals as goal

pub returns-in-Some-clause-holds : goal.returns-in-Some-clause-holds
returns-in-Some-clause-holds c = (c.in-Some.ensures.taken c.args.terms c.args.tasks.now c.requires.known).holds

pub returns-in-Some-clause-known : goal.returns-in-Some-clause-known
returns-in-Some-clause-known c = c.in-Some.ensures.left c.args.terms c.args.tasks.now c.requires.known

pub returns-clause-known : goal.returns-clause-known
returns-clause-known c =
    on_ok_weaker c.of.result (λ _. c.take_known.ensures.left c.args.terms c.args.tasks.now c.requires.known) c.of.ensures.bases
