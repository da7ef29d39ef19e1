use Rattle.std.proofs.Common.{◌≡◌, ℕ, List, ◌++◌, take, drop}
use Rattle.pf_vocabulary.specs.Names.Names.{with_name}
use Rattle.pf_vocabulary.proofs.names.names.Names.place_of.Given as goal

-- those before have lesser tasks
abbrev pub invariant-loop-place : goal.invariant-loop-place
invariant-loop-place l = (name : List ℕ) → take l.place l.self ++ with_name (drop l.place l.self) l.task name ≡ with_name l.self l.task name
