use Rattle.pf_vocabulary.proofs.TaskWordsLemmas.Commas.{IsReadTo}
use Rattle.pf_vocabulary.proofs.task_words.task_words.TaskWords.read.Given as goal

abbrev pub invariant-loop-end : goal.invariant-loop-end
invariant-loop-end l = IsReadTo l.text l.words l.start l.end
