-- The laws of changes, and the limits.
use Rattle.std.specs.Prelude.{◌≡◌, ◌≤◌, ◌^◌, None}
use Rattle.pf_weight.specs.declared.base.TheConstants.{LARGEST_BASE}
use Rattle.pf_weight.specs.declared.task.TheConstants.{LARGEST_TASK}
use Rattle.pf_scenario.specs.declared.limits.TheConstants.{MOST_EARLY, LONGEST_DELAY}
use Rattle.pf_scenario.specs.declared.scenario.TheConstants.{MOST_EVENTS, LAST_NUMBER}
use Rattle.pf_scenario.specs.declared.settings.TheConstants.{MOST_PROCESSORS, LARGEST_CAP, NEAR_HORIZON, WIDE_HORIZON}
use Rattle.pf_scenario.specs.System.{System, IsSystem}
use Rattle.pf_scenario.specs.Scenario.{Plan, opening_plan, plan_after}
use Rattle.pf_scenario.specs.Edit.{IsScenario, edit_fault}
use Rattle.pf_scenario.specs.declared.change.Change.{Change}

-- a change that is not refused makes a scenario of a scenario
abbrev pub ChangesKeepScenarios : Type 0
ChangesKeepScenarios =
    (s : Plan) (c : Change) → IsScenario s → edit_fault s c ≡ None → IsScenario (plan_after s c)

-- no change lowers the next number
abbrev pub NumbersRise : Type 0
NumbersRise = (s : Plan) (c : Change) → s.next ≤ (plan_after s c).next

-- a plan with no events is a scenario
abbrev pub OpeningIsScenario : Type 0
OpeningIsScenario = (settings : System) → IsSystem settings → IsScenario (opening_plan settings)

-- the limits of RULES, as constants of the program
pub record AreLimits : Type 0 where
  pub processors : MOST_PROCESSORS ≡ 64
  pub base : LARGEST_BASE ≡ 2 ^ 30
  pub cap : LARGEST_CAP ≡ 2 ^ 44
  pub near : NEAR_HORIZON ≡ 1048576
  pub wide : WIDE_HORIZON ≡ 4194304
  pub task : LARGEST_TASK ≡ 4095
  pub early : MOST_EARLY ≡ 1048576
  pub delay : LONGEST_DELAY ≡ 1048576
  pub events : MOST_EVENTS ≡ 65535
  pub number : LAST_NUMBER ≡ 1048575
