-- Worked examples: slots of runs, in words.
use Rattle.std.specs.Prelude.{◌≡◌, ℕ, None, Some, [], ◌∷◌, ◌++◌, codes}
use Rattle.pf_scenario.specs.Scenario.{Plan}
use Rattle.pf_scenario.specs.declared.event.Event.TheVariants.{Join, Leave, Delay, Limit}
use Rattle.pf_run.specs.RunRows.{rows_in, denials_in}
use Rattle.pf_run.specs.Examples.{plan_with}
use Rattle.pf_desk.specs.Desk.{Seen}
use Rattle.pf_why_text.specs.Slot.{why_text}

-- what is seen of the scenario after n slots
abbrev pub seen_after : Plan → ℕ → Seen
seen_after s n =
    record { version = 0; state = record { plan = s; now = n }; rows = rows_in s n; denials = denials_in s n }

-- tasks join, leave and are delayed, some in vain, and processors go out of use
abbrev pub busy : Plan
busy =
    plan_with 2 12 24 (Join 0 1 3 4 0 ∷ Join 0 2 2 3 0 ∷ Join 1 3 1 6 3 ∷ Join 2 4 5 12 0 ∷ Delay 4 1 2 ∷ Delay 6 3 1
    ∷ Limit 5 1 ∷ Limit 8 2 ∷ Leave 9 2 ∷ Leave 4 4 ∷ Leave 1 9 ∷ Join 3 5 1 2 0 ∷ Delay 3 4 1 ∷ [])

pub record WorkedSlots : Type 0 where
  -- two windows of one deadline, with the bits 1: the later group deadline comes first
  pub group : why_text [] (seen_after (plan_with 1 77 154 (Join 0 1 3 7 0 ∷ Join 0 2 8 11 0 ∷ [])) 3) 1 None ≡
      codes "slot 1 of 3: processors in use 1 of 1, base 77, load 89, room 77, subtasks that may run 2\np0: 2/2\n"
      ++ codes "rank  task/sub  window  deadline  bit  group  by     answer\n"
      ++ codes "1     2/2       1..3    3         1    4      -      runs on p0, kept\n"
      ++ codes "2     1/1       0..3    3         1    0      group  waits behind 2/2: same deadline, both bits 1, group deadline 0 after 4\n"
  -- a processor out of use, and a task whose join was denied
  pub limited : why_text [] (seen_after busy 16) 5 (Some 5) ≡
      codes "slot 5 of 16: processors in use 1 of 2, base 12, load 24, room 12, subtasks that may run 1\n"
      ++ codes "event 7, limit,5,1: taken\np0: 4/2\np1: out of use\n"
      ++ codes "rank  task/sub  window  deadline  bit  group  by  answer\n"
      ++ codes "1     4/2       5..8    8         1    0      -   runs on p0, lowest free\n"
      ++ codes "task 5: the join of task 5 in slot 3 (event 12) is denied\n"
  -- a leave that is denied, and when the task may leave; a subtask that runs before its release; a clock that is stopped
  pub denied : why_text [] (seen_after busy 16) 4 (Some 1) ≡
      codes "slot 4 of 16: processors in use 2 of 2, base 12, load 24, room 24, subtasks that may run 2\n"
      ++ codes "event 10, leave,4,4: denied: 4/1 ran in slot 2: the next slot in which it may leave is 9\n"
      ++ codes "event 5, delay,4,1,2: taken\np0: 2/4\np1: 3/2\n"
      ++ codes "rank  task/sub  window  deadline  bit  group  by        answer\n"
      ++ codes "1     2/4       4..6    6         0    6      -         runs on p0, kept\n"
      ++ codes "2     3/2       7..13   13        0    0      deadline  runs on p1, kept; early by 3\n"
      ++ codes "task 1: 1/4 is released in slot 6; its clock is stopped from slot 4 to 6 (event 5)\n"
  -- a task in the ranking, that waits; a subtask that may run before its release
  pub ranked : why_text [] (seen_after (plan_with 1 12 36 (Join 0 1 1 2 4 ∷ Join 0 2 1 3 4 ∷ Join 0 3 1 4 9 ∷ Delay 2 3 1 ∷ [])) 6) 1 (Some 3) ≡
      codes "slot 1 of 6: processors in use 1 of 1, base 12, load 13, room 12, subtasks that may run 3\np0: 2/1\n"
      ++ codes "rank  task/sub  window  deadline  bit  group  by        answer\n"
      ++ codes "1     2/1       0..3    3         0    0      -         runs on p0, lowest free\n"
      ++ codes "2     1/2       2..4    4         0    4      deadline  waits behind 2/1: deadline 4 after 3; early by 1\n"
      ++ codes "3     3/1       0..4    4         0    0      task      waits behind 2/1: deadline 4 after 3\n"
      ++ codes "task 3: 3/1 has rank 3 of 3, waits behind 2/1: deadline 4 after 3\n"
  -- nobody may run
  pub nobody : why_text [] (seen_after (plan_with 1 4 4 (Join 0 1 1 4 0 ∷ [])) 4) 2 (Some 1) ≡
      codes "slot 2 of 4: processors in use 1 of 1, base 4, load 1, room 4, subtasks that may run 0\np0: idle\ntask 1: 1/2 is released in slot 4\n"
