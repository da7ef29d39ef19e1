use Rattle.pf_laws.proofs.JoinsLemmas.Courses.{joins_are_let_in}
use Rattle.pf_laws.proofs.joins.joins_are_let_in.Goals as goal

pub returns : goal.returns
returns c = joins_are_let_in
