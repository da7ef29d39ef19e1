use Rattle.pf_code.proofs.Harmless.{names_end_no_comment}
use Rattle.pf_code.proofs.laws.names_end_no_comment.Goals as goal

pub returns : goal.returns
returns c = names_end_no_comment
