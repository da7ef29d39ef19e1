use Rattle.pf_why.proofs.Lawful.{rules_decide}
use Rattle.pf_why.proofs.laws.rules_decide.Goals as goal

pub returns : goal.returns
returns c = rules_decide
