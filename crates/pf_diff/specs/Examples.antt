-- Worked examples of what differs.
use Rattle.std.specs.Prelude.{◌≡◌, ℕ, ◌++◌, ◌∷◌, [], true, false, codes}
use Rattle.pf_scenario.specs.declared.event.Event.TheVariants.{Join}
use Rattle.pf_scenario.specs.Scenario.{plan_after}
use Rattle.pf_scenario.specs.declared.change.Change.TheVariants.{Strike}
use Rattle.pf_run.specs.Examples.{plan_with, two_joins}
use Rattle.pf_desk.specs.Desk.{Seen}
use Rattle.pf_report.specs.Examples.{seen_after, three_tasks, struck_third, overload_seen, late_delay, too_early}
use Rattle.pf_diff.specs.Diff.{diff_text_of}
use Rattle.pf_diff.specs.Summary.{summary_text}
use Rattle.pf_diff.specs.Differing.{is_different}

-- the overload, with the second join struck
abbrev pub relieved : Seen
relieved = seen_after 7 (plan_after (plan_with 1 1 2 two_joins) (Strike 2)) 4

-- the overload after two of its slots
abbrev pub half_overload : Seen
half_overload = seen_after 4 (plan_with 1 1 2 two_joins) 2

pub record WorkedDiffs : Type 0 where
  -- a task that is gone: another sits in slot 1, nobody in slot 2, and its lag is absent
  pub gone : diff_text_of three_tasks struck_third ≡
      codes "schedule\nslot,processor,before,after\n1,1,3/1,2/2\n2,0,2/2,\n2,1,3/2,\n"
      ++ codes "lags\ntask,before,after\n3,0,\nmisses\ntask,sub,before,after\ndenials\nevent,slot,before,after\n"
  -- the other way round
  pub back : diff_text_of struck_third three_tasks ≡
      codes "schedule\nslot,processor,before,after\n1,1,2/2,3/1\n2,0,,2/2\n2,1,,3/2\n"
      ++ codes "lags\ntask,before,after\n3,,0\nmisses\ntask,sub,before,after\ndenials\nevent,slot,before,after\n"
  -- nothing differs
  pub same : diff_text_of three_tasks three_tasks ≡
      codes "schedule\nslot,processor,before,after\nlags\ntask,before,after\nmisses\ntask,sub,before,after\n"
      ++ codes "denials\nevent,slot,before,after\n"
  -- windows that are missed no more, by task and subtask: those that ran late, and those that didn't run
  pub met : diff_text_of overload_seen relieved ≡
      codes "schedule\nslot,processor,before,after\n1,0,2/1,1/2\n2,0,1/2,1/3\n3,0,2/2,1/4\n"
      ++ codes "lags\ntask,before,after\n1,2,0\n2,2,\nmisses\ntask,sub,before,after\n1,2,ran 2,\n1,3,never,\n1,4,never,\n"
      ++ codes "2,1,ran 1,\n2,2,ran 3,\n2,3,never,\n2,4,never,\ndenials\nevent,slot,before,after\n"
  -- two more slots: no slot that both have differs; one that was missed ran since, and others are missed
  pub later : diff_text_of half_overload overload_seen ≡
      codes "schedule\nslot,processor,before,after\nlags\ntask,before,after\n1,1,2\n2,1,2\n"
      ++ codes "misses\ntask,sub,before,after\n1,2,never,ran 2\n1,3,,never\n1,4,,never\n2,2,never,ran 3\n2,3,,never\n2,4,,never\n"
      ++ codes "denials\nevent,slot,before,after\n"
  -- two denials of one event, in different slots and for different reasons
  pub denied : diff_text_of late_delay too_early ≡
      codes "schedule\nslot,processor,before,after\n1,0,1/2,\n"
      ++ codes "lags\ntask,before,after\n1,0,-3\n2,2,\nmisses\ntask,sub,before,after\n2,1,never,\n"
      ++ codes "denials\nevent,slot,before,after\n3,1,Released,\n3,4,,TooEarly\n"

-- three tasks of 3/4 each on two processors, with this cap
abbrev pub three_quarters : ℕ → Seen
three_quarters cap = seen_after 4 (plan_with 2 4 cap (Join 0 1 3 4 0 ∷ Join 0 2 3 4 0 ∷ Join 0 3 3 4 0 ∷ [])) 12

pub record WorkedSummaries : Type 0 where
  -- nothing differs
  pub same : summary_text three_tasks three_tasks ≡
      codes "summary\nfigure,before,after\nprocessors,2,2\nbase,3,3\ncap,6,6\nslots,3,3\ntasks,3,3\ndenials,0,0\nmisses,0,0\n"
      ++ codes "first_miss_task,,\nfirst_miss_sub,,\nfirst_miss_deadline,,\nworst_lag,2,2\nworst_lag_period,3,3\nworst_lag_task,3,3\n"
      ++ codes "preemptions,1,1\nmigrations,1,1\ncells,,0\n"
  pub alike : is_different three_tasks three_tasks ≡ false
  -- more is asked for than there is, and a cap that keeps the third task out
  pub capped : summary_text (three_quarters 12) (three_quarters 8) ≡
      codes "summary\nfigure,before,after\nprocessors,2,2\nbase,4,4\ncap,12,8\nslots,12,12\ntasks,3,2\ndenials,0,1\nmisses,10,0\n"
      ++ codes "first_miss_task,3,\nfirst_miss_sub,3,\nfirst_miss_deadline,4,\nworst_lag,6,0\nworst_lag_period,4,4\nworst_lag_task,3,1\n"
      ++ codes "preemptions,7,0\nmigrations,10,0\ncells,,21\n"
  pub different : is_different (three_quarters 12) (three_quarters 8) ≡ true
  -- two more slots, in which nothing is compared
  pub longer : is_different half_overload overload_seen ≡ true
