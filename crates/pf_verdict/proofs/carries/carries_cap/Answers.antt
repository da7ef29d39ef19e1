use Rattle.std.proofs.Common.{rules, ◌≡◌, ◌∙◌, sym}
use Rattle.pf_verdict.specs.Carries.{carries_cap}
use Rattle.pf_verdict.proofs.Found.{none_later}
use Rattle.pf_verdict.proofs.carries.carries_cap.Goals as goal

pub returns-then-processors-clause-none : goal.returns-then-processors-clause-none
returns-then-processors-clause-none c =
    let is : c.limits_carry-limits.result ≡ carries_cap c.args.scenario.now = search rules in
    λ yes. none_later c.args.scenario.now c.limits_carry-limits.ensures.scenario (sym is ∙ yes)
