use Rattle.pf_arguments.proofs.Worked.{worked_words}
use Rattle.pf_arguments.proofs.laws.worked_words_ask_so.Goals as goal

pub returns : goal.returns
returns c = worked_words
