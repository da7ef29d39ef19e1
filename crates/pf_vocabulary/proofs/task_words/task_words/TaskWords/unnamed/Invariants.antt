use Rattle.std.proofs.Common.{◌≡◌, drop}
use Rattle.pf_vocabulary.specs.TaskWords.Finding.{unnamed_in}
use Rattle.pf_vocabulary.proofs.task_words.task_words.TaskWords.unnamed.Given as goal

-- no name before is that of no task
abbrev pub invariant-loop-word : goal.invariant-loop-word
invariant-loop-word l = unnamed_in l.names (drop l.word-index l.self) ≡ unnamed_in l.names l.self
