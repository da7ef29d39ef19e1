use Rattle.std.proofs.Common.{◌≡◌}
use Rattle.std.specs.List.{list_all}
use Rattle.pf_code.specs.Repetition.{is_synchronous, joins_at_start}
use Rattle.pf_code.proofs.repetition.is_synchronous.Given as goal

-- those passed are such joins
abbrev pub invariant-loop-numbered : goal.invariant-loop-numbered
invariant-loop-numbered l = list_all (λ x. joins_at_start x.event) l.numbered-iterator ≡ is_synchronous l.scenario
