use Rattle.std.proofs.Common.{◌≡◌}
use Rattle.std.specs.List.{list_all}
use Rattle.pf_verdict.specs.Carries.{carries_with}
use Rattle.pf_verdict.proofs.carries.limits_carry.Given as goal

-- those passed leave enough
abbrev pub invariant-loop-numbered : goal.invariant-loop-numbered
invariant-loop-numbered l =
    list_all (λ x. carries_with l.settings x.event) l.numbered-iterator ≡ list_all (λ x. carries_with l.settings x.event) l.scenario.events
