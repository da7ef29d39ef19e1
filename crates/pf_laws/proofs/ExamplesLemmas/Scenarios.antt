-- The worked examples of settings and scenarios, computed.
use Rattle.std.proofs.Common.{refl, arith}
use Rattle.pf_scenario.specs.System.{IsInLimits}
use Rattle.pf_scenario.specs.Event.{run_cmp}
use Rattle.pf_scenario.specs.Scenario.{events_of}
use Rattle.pf_laws.specs.Examples.Scenarios.{WorkedChanges, WorkedRefusals, WorkedScenarios}

changes : WorkedChanges
unfolding run_cmp events_of
changes = record {
  no_processor = λ (limits : IsInLimits 0 1 1). omega (arith, limits.processors_some);
  cap_above = λ (limits : IsInLimits 1 1 17592186044417). omega (arith, limits.cap_within);
  greatest = record {
    processors_some = omega arith;
    processors_within = omega arith;
    base = record { some = omega arith; within = omega arith };
    cap_some = omega arith;
    cap_within = omega arith;
  };
  first = record { unrefused = refl; number = refl };
  second = record { unrefused = refl; number = refl };
  third = record { unrefused = refl; number = refl };
  next = refl;
  in_slot_2 = refl;
  in_slot_3 = refl;
  to_earlier = refl;
  to_later = refl;
  struck_none = refl;
}

refusals : WorkedRefusals
refusals = record {
  horizon = refl;
  no_task = refl;
  task_above = refl;
  early = refl;
  delay = refl;
  no_cost = refl;
  cost_above = refl;
  uneven = refl;
  no_processor = refl;
  processors_above = refl;
  limit_horizon = refl;
  join = record { unrefused = refl; number = refl };
  join_twice = refl;
  leave = record { unrefused = refl; number = refl };
  leave_twice = refl;
  alter = record { unrefused = refl; number = refl };
  unheld = refl;
  wide = record { unrefused = refl; number = refl };
  wide_horizon = refl;
  struck_twice = refl;
  altered_struck = refl;
  after_struck = record { unrefused = refl; number = refl };
  last = record { unrefused = refl; number = refl };
  spent = refl;
}

pub worked_scenarios : WorkedScenarios
worked_scenarios = record { changes = changes; refusals = refusals }
