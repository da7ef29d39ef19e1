use Rattle.std.proofs.Common.{◌≡◌, map, take}
use Rattle.pf_code.specs.Tasks.{own_symbol}
use Rattle.pf_code.proofs.tasks.own_symbols.Given as goal

abbrev pub invariant-loop-task : goal.invariant-loop-task
invariant-loop-task l = map (λ symbol. symbol.items) l.symbols.items ≡ map (own_symbol l.names) (take l.task-index l.tasks)
