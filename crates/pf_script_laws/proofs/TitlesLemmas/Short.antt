-- The numbers of a scenario's events are short enough for fields.
use Rattle.std.proofs.Common.{◌≡◌, ◌^◌, ◌≤◌, All, get_or, arith}
use Rattle.std.proofs.lemmas.Bool.{leb-true}
use Rattle.pf_laws.proofs.ReachLemmas.Weights.{weight-share}
use Rattle.pf_run.proofs.Limits.{passes_tests, join_task, join_weight, leave_task, delay_task, delay_by, limit_count}
use Rattle.pf_scenario.specs.Edit.{IsEvent, IsScenario}
use Rattle.pf_scenario.specs.Scenario.{Plan}
use Rattle.pf_scenario.specs.System.{System, IsInLimits, wide_horizon}
use Rattle.pf_scenario.specs.declared.event.Event.{Event}
use Rattle.pf_scenario.specs.declared.event.Event.TheVariants.{Join, Leave, Delay, Limit}
use Rattle.pf_scenario.specs.declared.limits.TheConstants.{MOST_EARLY}
use Rattle.pf_version_laws.proofs.Saying.{AreShort}

short_from : (s : System) (event : Event) → IsInLimits s.processors s.base s.cap → s.horizon ≤ 2 ^ 22 → IsEvent s event → AreShort event
short_from s (Join slot task cost period early) limits horizon is =
    let tests = passes_tests s (Join slot task cost period early) is in
    let share = weight-share s.base cost period limits.base (join_weight s slot task cost period early is) in
    let early_within = leb-true early MOST_EARLY tests.early in (
      omega (arith, tests.slot),
      omega (arith, join_task s slot task cost period early is),
      omega (arith, share.within, share.short),
      omega (arith, share.short),
      omega (arith, early_within),
    )
short_from s (Leave slot task) limits horizon is =
    (omega (arith, (passes_tests s (Leave slot task) is).slot), omega (arith, leave_task s slot task is))
short_from s (Delay slot task by) limits horizon is =
    (omega (arith, (passes_tests s (Delay slot task by) is).slot), omega (arith, delay_task s slot task by is), omega (arith, delay_by s slot task by is))
short_from s (Limit slot count) limits horizon is =
    (omega (arith, (passes_tests s (Limit slot count) is).slot), omega (arith, limit_count s slot count is, limits.processors_within))

-- Use: all events.
pub short : (s : Plan) → IsScenario s → s.settings.horizon ≡ wide_horizon → All (λ x. AreShort x.event) s.events
short s scenario wide = λ k d within.
    short_from s.settings (get_or s.events k d).event scenario.settings.limits (omega (arith, wide)) (scenario.limits k d within)
