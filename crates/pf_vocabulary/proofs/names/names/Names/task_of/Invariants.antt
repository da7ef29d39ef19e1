use Rattle.std.proofs.Common.{◌≡◌, drop}
use Rattle.pf_vocabulary.specs.Names.Names.{task_of}
use Rattle.pf_vocabulary.proofs.names.names.Names.task_of.Given as goal

-- the name is none of those before
abbrev pub invariant-loop-named : goal.invariant-loop-named
invariant-loop-named l = task_of (drop l.named-index l.self) l.name ≡ task_of l.self l.name
