use Rattle.std.proofs.Common.{◌≡◌, drop}
use Rattle.pf_vocabulary.specs.Names.Names.{name_of}
use Rattle.pf_vocabulary.proofs.names.names.Names.of_task.Given as goal

-- the task is none of those before
abbrev pub invariant-loop-named : goal.invariant-loop-named
invariant-loop-named l = name_of (drop l.named-index l.self) l.task ≡ name_of l.self l.task
