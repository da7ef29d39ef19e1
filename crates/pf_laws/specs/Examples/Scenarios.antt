-- Worked examples of settings and scenarios.
use Rattle.std.specs.Prelude.{◌≡◌, ℕ, None, Some, [], ◌∷◌}
use Rattle.std.specs.Option.{option_map}
use Rattle.pf_weight.specs.declared.fault.WeightFault.TheVariants.{ZeroCost, CostAbovePeriod, PeriodNotInBase}
use Rattle.pf_scenario.specs.System.{IsInLimits, near_horizon, wide_horizon}
use Rattle.pf_scenario.specs.Scenario.{Plan, opening_plan, with_number, plan_after, number_of_change, slot_touched, events_of}
use Rattle.pf_scenario.specs.Edit.{edit_fault}
use Rattle.pf_scenario.specs.Refusals.{edit_fault_code}
use Rattle.pf_scenario.specs.declared.event.Event.{Event}
use Rattle.pf_scenario.specs.declared.event.Event.TheVariants.{Join, Leave, Delay, Limit}
use Rattle.pf_scenario.specs.declared.change.Change.{Change}
use Rattle.pf_scenario.specs.declared.change.Change.TheVariants.{Insert, Alter, Strike}
use Rattle.pf_scenario.specs.declared.fault.EditFault.TheVariants.{BadWeight}

-- the scenario of m processors, the base h and the cap `most` that has no events yet
abbrev pub plan_of : ℕ → ℕ → ℕ → Plan
plan_of m h most = opening_plan (record { processors = m; base = h; cap = most; horizon = near_horizon })

-- the scenario after an event more
abbrev pub with_new : Plan → Event → Plan
with_new s event = plan_after s (Insert event)

-- no test refuses the change, which concerns event n
pub record IsMade (s : Plan) (c : Change) (n : ℕ) : Type 0 where
  pub unrefused : edit_fault s c ≡ None
  pub number : number_of_change s c ≡ n

-- one processor, the base 6 and the cap 6: with no event, and with one, two and three
abbrev pub no_events : Plan
no_events = plan_of 1 6 6

abbrev pub one_event : Plan
one_event = with_new no_events (Leave 9 1)

abbrev pub two_events : Plan
two_events = with_new one_event (Join 2 1 1 6 0)

abbrev pub three_events : Plan
three_events = with_new two_events (Delay 2 1 4)

-- settings, changes, and what they make of a scenario
pub record WorkedChanges : Type 0 where
  -- no processor is too few, a cap above 2 ^ 44 is too much, and these are the greatest settings
  pub no_processor : ¬ (IsInLimits 0 1 1)
  pub cap_above : ¬ (IsInLimits 1 1 17592186044417)
  pub greatest : IsInLimits 64 1073741824 17592186044416
  -- three inserts have the numbers 1, 2 and 3, and the next one has 4
  pub first : IsMade no_events (Insert (Leave 9 1)) 1
  pub second : IsMade one_event (Insert (Join 2 1 1 6 0)) 2
  pub third : IsMade two_events (Insert (Delay 2 1 4)) 3
  pub next : three_events.next ≡ 4
  -- slot 2 has events 2 and 3, slot 3 none
  pub in_slot_2 : events_of three_events 2 ≡ with_number 2 (Join 2 1 1 6 0) ∷ with_number 3 (Delay 2 1 4) ∷ []
  pub in_slot_3 : events_of three_events 3 ≡ []
  -- to alter touches the earlier one of two slots
  pub to_earlier : slot_touched three_events (Alter 1 (Leave 4 1)) ≡ Some 4
  pub to_later : slot_touched three_events (Alter 2 (Join 11 1 1 6 0)) ≡ Some 2
  -- to strike what isn't held touches none
  pub struck_none : slot_touched three_events (Strike 8) ≡ None

-- the change is refused with this number of the table of refusals
abbrev pub IsRefused : Plan → Change → ℕ → Type 0
IsRefused s c code = option_map edit_fault_code (edit_fault s c) ≡ Some code

-- task 4,095 joins with the greatest early and then leaves in slot 3
abbrev pub joined : Plan
joined = with_new no_events (Join 0 4095 1 6 1048576)

abbrev pub left : Plan
left = with_new joined (Leave 3 4095)

-- the same in wide settings
abbrev pub wide_plan : Plan
wide_plan = opening_plan (record { processors = 1; base = 6; cap = 6; horizon = wide_horizon })

-- one join was inserted and struck
abbrev pub struck : Plan
struck = plan_after (with_new no_events (Join 5 1 1 6 0)) (Strike 1)

-- changes that are refused, and such as just are not
pub record WorkedRefusals : Type 0 where
  -- the horizon is 1,048,576, and this test is before that of the task
  pub horizon : IsRefused no_events (Insert (Join 1048576 0 1 2 0)) 11
  -- tasks are 1 to 4,095
  pub no_task : IsRefused no_events (Insert (Join 0 0 1 2 0)) 12
  pub task_above : IsRefused no_events (Insert (Join 0 4096 1 2 0)) 12
  -- early is 1,048,576 at most, and this test is before that of the weight
  pub early : IsRefused no_events (Insert (Join 0 1 0 2 1048577)) 13
  -- a delay is 1 at least
  pub delay : IsRefused no_events (Insert (Delay 0 1 0)) 14
  -- weights with no cost, a cost above the period, and a period that doesn't divide the base
  pub no_cost : edit_fault no_events (Insert (Join 0 1 0 2 0)) ≡ Some (BadWeight ZeroCost)
  pub cost_above : edit_fault no_events (Insert (Join 0 1 3 2 0)) ≡ Some (BadWeight CostAbovePeriod)
  pub uneven : edit_fault no_events (Insert (Join 0 1 1 4 0)) ≡ Some (BadWeight PeriodNotInBase)
  -- a limit is of one processor at least, and not of more than there are
  pub no_processor : IsRefused (plan_of 2 1 2) (Insert (Limit 0 0)) 24
  pub processors_above : IsRefused (plan_of 2 1 2) (Insert (Limit 0 3)) 24
  pub limit_horizon : IsRefused (plan_of 2 1 2) (Insert (Limit 1048576 0)) 11
  -- a task joins once and leaves once
  pub join : IsMade no_events (Insert (Join 0 4095 1 6 1048576)) 1
  pub join_twice : IsRefused joined (Insert (Join 9 4095 1 6 0)) 16
  pub leave : IsMade joined (Insert (Leave 3 4095)) 2
  pub leave_twice : IsRefused left (Insert (Leave 4 4095)) 17
  -- the altered event itself is no second one
  pub alter : IsMade left (Alter 2 (Leave 5 4095)) 2
  -- there is no event 9, and this test is before all others
  pub unheld : IsRefused left (Alter 9 (Join 1048576 0 1 1 0)) 10
  -- wide settings have 4,194,304 slots
  pub wide : IsMade wide_plan (Insert (Join 1048576 1 1 6 0)) 1
  pub wide_horizon : IsRefused wide_plan (Insert (Delay 4194304 1 1)) 11
  -- what was struck is not held, and its number is not given again
  pub struck_twice : IsRefused struck (Strike 1) 10
  pub altered_struck : IsRefused struck (Alter 1 (Leave 5 1)) 10
  pub after_struck : IsMade struck (Insert (Join 5 1 1 6 0)) 2
  -- the last number is 1,048,575
  pub last : IsMade (record no_events { next = 1048575 }) (Insert (Leave 0 1)) 1048575
  pub spent : IsRefused (record no_events { next = 1048576 }) (Insert (Leave 0 1)) 19

pub record WorkedScenarios : Type 0 where
  pub changes : WorkedChanges
  pub refusals : WorkedRefusals
