-- Worked examples of tables.
use Rattle.std.specs.Prelude.{◌≡◌, ℕ, [], ◌∷◌, ◌++◌, codes}
use Rattle.pf_scenario.specs.Scenario.{Plan}
use Rattle.pf_scenario.specs.declared.event.Event.TheVariants.{Join, Leave, Delay, Limit}
use Rattle.pf_run.specs.RunRows.{rows_in, denials_in}
use Rattle.pf_run.specs.Examples.{plan_with}
use Rattle.pf_desk.specs.Desk.{Seen}
use Rattle.pf_vocabulary.specs.Names.Titled.{untitled}
use Rattle.pf_vocabulary.specs.Tasks.Listed.{all_tasks}
use Rattle.pf_jobs.specs.Jobs.{jobs_text}
use Rattle.pf_jobs.specs.Load.{load_text}

-- what is seen of the scenario after n slots
abbrev pub seen_after : Plan → ℕ → Seen
seen_after s n =
    record { version = 0; state = record { plan = s; now = n }; rows = rows_in s n; denials = denials_in s n }

-- tasks join, leave and are delayed, some in vain, and processors go out of use
abbrev pub busy : Seen
busy =
    seen_after (plan_with 2 12 24 (Join 0 1 3 4 0 ∷ Join 0 2 2 3 0 ∷ Join 1 3 1 6 3 ∷ Join 2 4 5 12 0 ∷ Delay 4 1 2 ∷ Delay 6 3 1
    ∷ Limit 5 1 ∷ Limit 8 2 ∷ Leave 9 2 ∷ Leave 4 4 ∷ Leave 1 9 ∷ Join 3 5 1 2 0 ∷ Delay 3 4 1 ∷ [])) 16

pub record WorkedLoads : Type 0 where
  pub whole : load_text busy 0 16 ≡ codes "slot,load,room\n0,17,24\n1,19,24\n2,24,24\n5,24,12\n8,24,24\n9,16,24\n"
  -- a range, the first slot of which has a line in any case
  pub part : load_text busy 6 9 ≡ codes "slot,load,room\n6,24,12\n8,24,24\n"
  pub none : load_text busy 6 6 ≡ codes "slot,load,room\n"

pub record WorkedJobs : Type 0 where
  -- jobs that work ahead of their release, and one whose release a delay moves
  pub whole : jobs_text busy all_tasks untitled ≡
      codes "task,job,release,deadline,finish,response,tardiness\n1,1,0,4,3,3,0\n1,2,6,10,10,4,0\n1,3,10,14,13,3,0\n"
      ++ codes "2,1,0,3,2,2,0\n2,2,3,6,5,2,0\n2,3,6,9,9,3,0\n3,1,1,7,4,3,0\n3,2,7,13,5,-2,0\n3,3,14,20,12,-2,0\n4,1,2,15,13,11,0\n"
  -- more is asked for than there is: one is overdue, one is not finished; of task 2 alone
  pub late : jobs_text (seen_after (plan_with 2 4 12 (Join 0 1 3 4 0 ∷ Join 0 2 3 4 0 ∷ Join 0 3 3 4 0 ∷ [])) 12)
      (record { first = 2; last = 2 } ∷ []) untitled ≡
      codes "task,job,release,deadline,finish,response,tardiness\n2,1,0,4,4,4,0\n2,2,4,8,9,5,1\n2,3,8,12,,,\n"
