use Rattle.pf_verdict.proofs.Tightest.{first_tightest_is_told}
use Rattle.pf_verdict.proofs.laws.the_first_tightest_is_told.Goals as goal

pub returns : goal.returns
returns c = first_tightest_is_told
