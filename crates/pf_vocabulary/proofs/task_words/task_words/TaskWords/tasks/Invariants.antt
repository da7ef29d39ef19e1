use Rattle.std.proofs.Common.{◌≡◌, ◌++◌, drop}
use Rattle.pf_vocabulary.specs.TaskWords.Finding.{ranges_of}
use Rattle.pf_vocabulary.proofs.task_words.task_words.TaskWords.tasks.Given as goal

-- the ranges so far and those of the words left are all
abbrev pub invariant-loop-word : goal.invariant-loop-word
invariant-loop-word l = l.ranges.items ++ ranges_of l.names (drop l.word-index l.self) ≡ ranges_of l.names l.self
