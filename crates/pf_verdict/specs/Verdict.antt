-- The verdict on a script.
use Rattle.std.specs.Prelude.{ℕ, ◌==◌, Bool, ◌&&◌, nat_le, if◌then◌else◌, count_by}
use Rattle.pf_scenario.specs.Event.{slot_of}
use Rattle.pf_scenario.specs.Scenario.{Plan}
use Rattle.pf_verdict.specs.declared.verdict.Grounds.{Grounds}
use Rattle.pf_verdict.specs.declared.verdict.Verdict.{Verdict}
use Rattle.pf_verdict.specs.declared.verdict.Verdict.TheVariants.{Fits, FitsSoFar, DoesNotFit}

-- nothing was refused, denied or missed
abbrev pub is_clean : Grounds → Bool
is_clean g = g.refused == 0 && g.denied == 0 && g.missed == 0

-- no slot asks for more than its processors, and each event is reached
abbrev pub is_settled : Grounds → Bool
is_settled g = g.above == 0 && g.unreached == 0

abbrev pub verdict_of : Grounds → Verdict
verdict_of g = if is_clean g then (if is_settled g then Fits else FitsSoFar) else DoesNotFit

-- how many of the events held have a slot that is not below n
abbrev pub unreached_of : Plan → ℕ → ℕ
unreached_of s n = count_by (λ x. nat_le n (slot_of x.event)) s.events
