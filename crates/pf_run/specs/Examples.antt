-- Worked examples of runs.
use Rattle.std.specs.Prelude.{ℕ, ◌+◌, List, [], ◌∷◌, ◌++◌, length}
use Rattle.pf_place.specs.Pick.{Pick}
use Rattle.pf_scenario.specs.System.{near_horizon}
use Rattle.pf_scenario.specs.Scenario.{Plan, with_number, plan_after}
use Rattle.pf_scenario.specs.declared.event.Event.{Event}
use Rattle.pf_scenario.specs.declared.event.Event.TheVariants.{Join, Leave, Delay, Limit}
use Rattle.pf_scenario.specs.declared.event.Numbered.{Numbered}
use Rattle.pf_scenario.specs.declared.change.Change.TheVariants.{Strike}
use Rattle.pf_admit.specs.declared.denial.Denial.{Denial}
use Rattle.pf_admit.specs.declared.denial.Denial.TheVariants.{OverCapacity, NotInside, TooEarly, Released}
use Rattle.pf_run.specs.declared.denied.Denied.{Denied}
use Rattle.pf_run.specs.Record.{Slot}
use Rattle.pf_run.specs.Run.{IsRun}

-- these events, numbered from n on
abbrev pub numbered_from : ℕ → List Event → List Numbered
numbered_from n [] = []
numbered_from n (x ∷ xs) = with_number n x ∷ numbered_from (n + 1) xs

-- a scenario of m processors, the base h, the cap and these events, numbered from 1 on
abbrev pub plan_with : ℕ → ℕ → ℕ → List Event → Plan
plan_with m h cap events = record {
  settings = record { processors = m; base = h; cap = cap; horizon = near_horizon };
  events = numbered_from 1 events;
  next = length events + 1;
}

-- subtask i of the task
abbrev pub pick_with : ℕ → ℕ → Pick
pick_with task i = record { task = task; sub = i }

-- a slot with these picks and no denial, and one with denials
abbrev pub slot_with : List Pick → Slot
slot_with picks = record { picks = picks; denials = [] }

abbrev pub ran_but : List Pick → List Denied → Slot
ran_but picks denials = record { picks = picks; denials = denials }

abbrev pub denied_in : ℕ → ℕ → Denial → Denied
denied_in slot id denial = record { slot = slot; id = id; denial = denial }

abbrev pub idle_slot : Slot
idle_slot = slot_with []

-- three tasks of weight 2/3
abbrev pub three_joins : List Event
three_joins = Join 0 1 2 3 0 ∷ Join 0 2 2 3 0 ∷ Join 0 3 2 3 0 ∷ []

-- two tasks of weight 1
abbrev pub two_joins : List Event
two_joins = Join 0 1 1 1 0 ∷ Join 0 2 1 1 0 ∷ []

-- which subtask goes first
pub record OrderExamples : Type 0 where
  -- three tasks on two processors
  pub three_tasks : IsRun (plan_with 2 3 6 three_joins) 3
      (slot_with (pick_with 1 1 ∷ pick_with 2 1 ∷ []) ∷ slot_with (pick_with 3 1 ∷ pick_with 1 2 ∷ []) ∷ slot_with (pick_with 2 2 ∷ pick_with 3 2 ∷ []) ∷ [])
  -- both deadlines are 2: the bit 1 goes first
  pub bit : IsRun (plan_with 1 6 12 (Join 0 1 1 2 0 ∷ Join 0 2 2 3 0 ∷ [])) 2 (slot_with (pick_with 2 1 ∷ []) ∷ slot_with (pick_with 1 1 ∷ []) ∷ [])
  -- in slot 1 both deadlines are 3 and both bits 1: the group deadline 4 goes before 0
  pub group : IsRun (plan_with 1 77 154 (Join 0 1 3 7 0 ∷ Join 0 2 8 11 0 ∷ [])) 3
      (slot_with (pick_with 2 1 ∷ []) ∷ slot_with (pick_with 2 2 ∷ []) ∷ slot_with (pick_with 1 1 ∷ []) ∷ [])
  -- more is asked for than there is
  pub overload : IsRun (plan_with 1 1 2 two_joins) 4
      (slot_with (pick_with 1 1 ∷ []) ∷ slot_with (pick_with 2 1 ∷ []) ∷ slot_with (pick_with 1 2 ∷ []) ∷ slot_with (pick_with 2 2 ∷ []) ∷ [])
  -- subtasks run up to four slots early
  pub early : IsRun (plan_with 1 4 4 (Join 0 1 1 4 4 ∷ [])) 9
      (slot_with (pick_with 1 1 ∷ []) ∷ slot_with (pick_with 1 2 ∷ []) ∷ idle_slot ∷ idle_slot ∷ slot_with (pick_with 1 3 ∷ []) ∷ idle_slot ∷ idle_slot ∷ idle_slot ∷ slot_with (pick_with 1 4 ∷ []) ∷ [])
  -- windows are counted from the join slot: [2,4), [4,6)
  pub joined_late : IsRun (plan_with 1 2 2 (Join 2 1 1 2 0 ∷ [])) 5
      (idle_slot ∷ idle_slot ∷ slot_with (pick_with 1 1 ∷ []) ∷ idle_slot ∷ slot_with (pick_with 1 2 ∷ []) ∷ [])

-- delays
pub record DelayExamples : Type 0 where
  -- subtask 2 has the window [5,7), subtask 3 has [7,9)
  pub plain : IsRun (plan_with 1 2 2 (Join 0 1 1 2 0 ∷ Delay 2 1 3 ∷ [])) 6
      (slot_with (pick_with 1 1 ∷ []) ∷ idle_slot ∷ idle_slot ∷ idle_slot ∷ idle_slot ∷ slot_with (pick_with 1 2 ∷ []) ∷ [])
  -- subtask 2, which would have run in slot 1, is held back, and so are all later ones
  pub holds_back : IsRun (plan_with 1 4 4 (Join 0 1 1 4 4 ∷ Delay 1 1 3 ∷ [])) 8
      (slot_with (pick_with 1 1 ∷ []) ∷ idle_slot ∷ idle_slot ∷ slot_with (pick_with 1 2 ∷ []) ∷ idle_slot ∷ idle_slot ∷ idle_slot ∷ slot_with (pick_with 1 3 ∷ []) ∷ [])
  -- subtask 2 still runs in slot 1, as it may run four slots early
  pub still_early : IsRun (plan_with 1 4 4 (Join 0 1 1 4 4 ∷ Delay 1 1 1 ∷ [])) 6
      (slot_with (pick_with 1 1 ∷ []) ∷ slot_with (pick_with 1 2 ∷ []) ∷ idle_slot ∷ idle_slot ∷ idle_slot ∷ slot_with (pick_with 1 3 ∷ []) ∷ [])
  -- the next subtask is released before the delay
  pub released : IsRun (plan_with 1 2 4 (Join 0 1 1 1 0 ∷ Join 0 2 1 2 0 ∷ Delay 1 2 1 ∷ [])) 2
      (slot_with (pick_with 1 1 ∷ []) ∷ ran_but (pick_with 1 2 ∷ []) (denied_in 1 3 Released ∷ []) ∷ [])
  -- a subtask that is ready and not picked is held back
  pub unpicked : IsRun (plan_with 1 4 8 (Join 0 2 1 4 4 ∷ Join 1 1 1 1 0 ∷ Leave 2 1 ∷ Delay 2 2 3 ∷ [])) 4
      (slot_with (pick_with 2 1 ∷ []) ∷ slot_with (pick_with 1 1 ∷ []) ∷ idle_slot ∷ slot_with (pick_with 2 2 ∷ []) ∷ [])

-- joins and leaves
pub record LeaveExamples : Type 0 where
  -- 12 + 1 > 12, and without event 3 it is 8 + 1
  pub over_capacity : IsRun (plan_with 2 6 12 (three_joins ++ Join 0 4 1 6 0 ∷ [])) 1
      (ran_but (pick_with 1 1 ∷ pick_with 2 1 ∷ []) (denied_in 0 4 OverCapacity ∷ []) ∷ [])
  pub let_in : IsRun (plan_after (plan_with 2 6 12 (three_joins ++ Join 0 4 1 6 0 ∷ [])) (Strike 3)) 1 (slot_with (pick_with 1 1 ∷ pick_with 2 1 ∷ []) ∷ [])
  -- a task whose join is denied is not inside
  pub denied_join : IsRun (plan_with 1 1 1 (two_joins ++ Leave 1 2 ∷ Delay 1 2 1 ∷ [])) 2
      (ran_but (pick_with 1 1 ∷ []) (denied_in 0 2 OverCapacity ∷ [])
      ∷ ran_but (pick_with 1 2 ∷ []) (denied_in 1 3 NotInside ∷ denied_in 1 4 NotInside ∷ []) ∷ [])
  -- nor is one whose join was struck, while its leave stays
  pub struck_join : IsRun (plan_after (plan_with 1 1 1 (Join 0 1 1 1 0 ∷ Leave 1 1 ∷ [])) (Strike 1)) 2
      (idle_slot ∷ ran_but [] (denied_in 1 2 NotInside ∷ []) ∷ [])
  -- the lower task number is judged first
  pub evicted : IsRun (plan_with 1 1 1 (Join 0 2 1 1 0 ∷ Join 0 1 1 1 0 ∷ [])) 2
      (ran_but (pick_with 1 1 ∷ []) (denied_in 0 1 OverCapacity ∷ []) ∷ slot_with (pick_with 1 2 ∷ []) ∷ [])
  -- a leave makes room for a join of its slot; with none of the joined task the leave is denied, and then the join
  pub leave_first : IsRun (plan_with 1 2 2 (Join 0 1 1 1 0 ∷ Leave 3 1 ∷ Join 3 2 1 1 0 ∷ [])) 4
      (slot_with (pick_with 1 1 ∷ []) ∷ slot_with (pick_with 1 2 ∷ []) ∷ slot_with (pick_with 1 3 ∷ []) ∷ slot_with (pick_with 2 1 ∷ []) ∷ [])
  pub leave_of_none : IsRun (plan_with 1 2 2 (Join 0 1 1 1 0 ∷ Leave 3 2 ∷ Join 3 2 1 1 0 ∷ [])) 4
      (slot_with (pick_with 1 1 ∷ []) ∷ slot_with (pick_with 1 2 ∷ []) ∷ slot_with (pick_with 1 3 ∷ [])
      ∷ ran_but (pick_with 1 4 ∷ []) (denied_in 3 2 NotInside ∷ denied_in 3 3 OverCapacity ∷ []) ∷ [])
  -- a leave and a join of one task in one slot: the leave comes first and is denied, and the task stays
  pub leave_and_join : IsRun (plan_with 1 1 1 (Leave 0 1 ∷ Join 0 1 1 1 0 ∷ [])) 1
      (ran_but (pick_with 1 1 ∷ []) (denied_in 0 1 NotInside ∷ []) ∷ [])
  -- a leave, and a delay in its slot; a join, and a delay in its slot
  pub leave_and_delay : IsRun (plan_with 1 1 1 (Join 0 1 1 1 0 ∷ Delay 1 1 1 ∷ Leave 1 1 ∷ [])) 2
      (slot_with (pick_with 1 1 ∷ []) ∷ ran_but [] (denied_in 1 2 NotInside ∷ []) ∷ [])
  pub join_and_delay : IsRun (plan_with 1 1 1 (Join 0 1 1 1 0 ∷ Delay 0 1 1 ∷ [])) 2 (idle_slot ∷ slot_with (pick_with 1 1 ∷ []) ∷ [])
  -- a leave in the slot in which the task may leave, and the same with a delay before it
  pub leave_in_time : IsRun (plan_with 1 3 3 (Join 0 1 1 3 0 ∷ Leave 3 1 ∷ [])) 4 (slot_with (pick_with 1 1 ∷ []) ∷ idle_slot ∷ idle_slot ∷ idle_slot ∷ [])
  pub leave_too_early : IsRun (plan_with 1 3 3 (Join 0 1 1 3 0 ∷ Leave 3 1 ∷ Delay 0 1 1 ∷ [])) 4
      (idle_slot ∷ slot_with (pick_with 1 1 ∷ []) ∷ idle_slot ∷ ran_but [] (denied_in 3 2 TooEarly ∷ []) ∷ [])
  -- a leave goes by the shift of the subtask that ran last, 4 + 1, and not by that of the next one
  pub last_in_time : IsRun (plan_with 1 11 11 (Join 0 1 8 11 0 ∷ Delay 1 1 10 ∷ Leave 5 1 ∷ [])) 6
      (slot_with (pick_with 1 1 ∷ []) ∷ idle_slot ∷ idle_slot ∷ idle_slot ∷ idle_slot ∷ idle_slot ∷ [])
  pub last_too_early : IsRun (plan_with 1 11 11 (Join 0 1 8 11 0 ∷ Delay 1 1 10 ∷ Leave 4 1 ∷ [])) 6
      (slot_with (pick_with 1 1 ∷ []) ∷ idle_slot ∷ idle_slot ∷ idle_slot ∷ ran_but [] (denied_in 4 3 TooEarly ∷ []) ∷ idle_slot ∷ [])

-- processors out of use
pub record LimitExamples : Type 0 where
  pub one_left : IsRun (plan_with 2 3 6 (three_joins ++ Limit 1 1 ∷ [])) 3
      (slot_with (pick_with 1 1 ∷ pick_with 2 1 ∷ []) ∷ slot_with (pick_with 3 1 ∷ []) ∷ slot_with (pick_with 1 2 ∷ []) ∷ [])
  pub for_a_slot : IsRun (plan_with 2 3 6 (three_joins ++ Limit 1 1 ∷ Limit 2 2 ∷ [])) 3
      (slot_with (pick_with 1 1 ∷ pick_with 2 1 ∷ []) ∷ slot_with (pick_with 3 1 ∷ []) ∷ slot_with (pick_with 1 2 ∷ pick_with 2 2 ∷ []) ∷ [])
  pub with_leave : IsRun (plan_with 2 1 2 (two_joins ++ Leave 1 1 ∷ Limit 1 1 ∷ [])) 2
      (slot_with (pick_with 1 1 ∷ pick_with 2 1 ∷ []) ∷ slot_with (pick_with 2 2 ∷ []) ∷ [])
  -- of two limits of one slot the later number holds
  pub later_number : IsRun (plan_with 2 1 2 (two_joins ++ Limit 0 1 ∷ Limit 0 2 ∷ [])) 1 (slot_with (pick_with 1 1 ∷ pick_with 2 1 ∷ []) ∷ [])

pub record WorkedExamples : Type 0 where
  pub order : OrderExamples
  pub delays : DelayExamples
  pub leaves : LeaveExamples
  pub limits : LimitExamples
