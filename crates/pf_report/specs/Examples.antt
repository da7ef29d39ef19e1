-- Worked examples of reports: what a desk shows of a scenario, and the texts.
use Rattle.std.specs.Prelude.{◌≡◌, ℕ, [], ◌∷◌, ◌++◌, codes}
use Rattle.pf_scenario.specs.Scenario.{Plan, plan_after, with_number}
use Rattle.pf_scenario.specs.System.{wide_horizon}
use Rattle.pf_scenario.specs.declared.event.Event.TheVariants.{Join, Leave, Delay, Limit}
use Rattle.pf_scenario.specs.declared.change.Change.TheVariants.{Strike}
use Rattle.pf_run.specs.RunRows.{rows_in, denials_in}
use Rattle.pf_run.specs.Examples.{plan_with, two_joins, three_joins}
use Rattle.pf_desk.specs.Desk.{Seen}
use Rattle.pf_vocabulary.specs.Names.Titled.{untitled}
use Rattle.pf_report.specs.Tables.{schedule_text, lags_text, misses_text, denials_text}
use Rattle.pf_report.specs.Json.{json_text}
use Rattle.pf_report.specs.Part.{schedule_part_text}
use Rattle.pf_report.specs.Script.{script_text_of}

-- what a desk shows of the scenario after n slots and so many entries
abbrev pub seen_after : ℕ → Plan → ℕ → Seen
seen_after entries s n =
    record { version = entries; state = record { plan = s; now = n }; rows = rows_in s n; denials = denials_in s n }

-- three tasks of weight 2/3 on two processors, and the same with the third join struck in the past
abbrev pub three_tasks : Seen
three_tasks = seen_after 6 (plan_with 2 3 6 three_joins) 3

abbrev pub struck_third : Seen
struck_third = seen_after 7 (plan_after (plan_with 2 3 6 three_joins) (Strike 3)) 3

-- subtasks run early
abbrev pub early : Seen
early = seen_after 3 (plan_with 1 4 4 (Join 0 1 1 4 4 ∷ [])) 2

-- more is asked for than there is
abbrev pub overload_seen : Seen
overload_seen = seen_after 6 (plan_with 1 1 2 two_joins) 4

-- a delay after the release, a leave before its time, and a leave of nobody after which a join is denied
abbrev pub late_delay : Seen
late_delay = seen_after 5 (plan_with 1 2 4 (Join 0 1 1 1 0 ∷ Join 0 2 1 2 0 ∷ Delay 1 2 1 ∷ [])) 2

abbrev pub too_early : Seen
too_early = seen_after 9 (plan_with 1 11 11 (Join 0 1 8 11 0 ∷ Delay 1 1 10 ∷ Leave 4 1 ∷ [])) 6

abbrev pub of_nobody : Seen
of_nobody = seen_after 7 (plan_with 1 2 2 (Join 0 1 1 1 0 ∷ Leave 3 2 ∷ Join 3 2 1 1 0 ∷ [])) 4

-- wide settings, an event of each kind, and numbers that have gaps; no slot was stepped
abbrev pub wide_plan : Plan
wide_plan = record {
  settings = record { processors = 2; base = 4; cap = 8; horizon = wide_horizon };
  events = with_number 2 (Leave 9 1) ∷ with_number 3 (Limit 4 1) ∷ with_number 7 (Join 0 1 1 4 3) ∷ with_number 8 (Delay 2 1 5) ∷ [];
  next = 9;
}

abbrev pub wide_seen : Seen
wide_seen = record { version = 8; state = record { plan = wide_plan; now = 0 }; rows = []; denials = [] }

pub record WorkedReports : Type 0 where
  pub schedule : schedule_text three_tasks ≡ codes "slot,p0,p1\n0,1/1,2/1\n1,1/2,3/1\n2,2/2,3/2\n"
  -- a part of it, the whole as one, and none
  pub part : schedule_part_text three_tasks 1 2 ≡ codes "slot,p0,p1\n1,1/2,3/1\n"
  pub whole : schedule_part_text three_tasks 0 3 ≡ schedule_text three_tasks
  pub none : schedule_part_text three_tasks 2 2 ≡ codes "slot,p0,p1\n"
  pub lags : lags_text three_tasks untitled ≡ codes "task,cost,period,received,lag\n1,2,3,2,0\n2,2,3,2,0\n3,2,3,2,0\n"
  pub json : json_text three_tasks untitled ≡
      codes "{\"denials\":[],\"entries\":6,\"lags\":[{\"cost\":2,\"lag\":0,\"period\":3,\"received\":2,\"task\":1},"
      ++ codes "{\"cost\":2,\"lag\":0,\"period\":3,\"received\":2,\"task\":2},"
      ++ codes "{\"cost\":2,\"lag\":0,\"period\":3,\"received\":2,\"task\":3}],\"misses\":[],\"now\":3,"
      ++ codes "\"schedule\":[[[1,1],[2,1]],[[1,2],[3,1]],[[2,2],[3,2]]]}"
  -- idle processors
  pub idle : schedule_text struck_third ≡ codes "slot,p0,p1\n0,1/1,2/1\n1,1/2,2/2\n2,,\n"
  pub idle_json : json_text struck_third untitled ≡
      codes "{\"denials\":[],\"entries\":7,\"lags\":[{\"cost\":2,\"lag\":0,\"period\":3,\"received\":2,\"task\":1},"
      ++ codes "{\"cost\":2,\"lag\":0,\"period\":3,\"received\":2,\"task\":2}],\"misses\":[],\"now\":3,"
      ++ codes "\"schedule\":[[[1,1],[2,1]],[[1,2],[2,2]],[null,null]]}"
  -- nothing missed, nothing denied
  pub no_miss : misses_text struck_third ≡ codes "task,sub,deadline,ran\n"
  pub no_denial : denials_text struck_third ≡ codes "slot,event,code,reason\n"
  -- a lag below 0
  pub ahead : lags_text early untitled ≡ codes "task,cost,period,received,lag\n1,1,4,2,-6\n"
  pub ahead_json : json_text early untitled ≡
      codes "{\"denials\":[],\"entries\":3,\"lags\":[{\"cost\":1,\"lag\":-6,\"period\":4,\"received\":2,\"task\":1}],"
      ++ codes "\"misses\":[],\"now\":2,\"schedule\":[[[1,1]],[[1,2]]]}"
  -- subtasks that ran late, and some that didn't run
  pub late : misses_text overload_seen ≡
      codes "task,sub,deadline,ran\n2,1,1,1\n1,2,2,2\n2,2,2,3\n1,3,3,\n2,3,3,\n1,4,4,\n2,4,4,\n"
  pub late_json : json_text overload_seen untitled ≡
      codes "{\"denials\":[],\"entries\":6,\"lags\":[{\"cost\":1,\"lag\":2,\"period\":1,\"received\":2,\"task\":1},"
      ++ codes "{\"cost\":1,\"lag\":2,\"period\":1,\"received\":2,\"task\":2}],"
      ++ codes "\"misses\":[{\"deadline\":1,\"ran\":1,\"sub\":1,\"task\":2},{\"deadline\":2,\"ran\":2,\"sub\":2,\"task\":1},"
      ++ codes "{\"deadline\":2,\"ran\":3,\"sub\":2,\"task\":2},{\"deadline\":3,\"ran\":null,\"sub\":3,\"task\":1},"
      ++ codes "{\"deadline\":3,\"ran\":null,\"sub\":3,\"task\":2},{\"deadline\":4,\"ran\":null,\"sub\":4,\"task\":1},"
      ++ codes "{\"deadline\":4,\"ran\":null,\"sub\":4,\"task\":2}],\"now\":4,\"schedule\":[[[1,1]],[[2,1]],[[1,2]],[[2,2]]]}"
  -- the denials, each with its number and its name
  pub denied_delay : denials_text late_delay ≡ codes "slot,event,code,reason\n1,3,23,Released\n"
  pub denied_leave : denials_text too_early ≡ codes "slot,event,code,reason\n4,3,22,TooEarly\n"
  pub denied_both : denials_text of_nobody ≡ codes "slot,event,code,reason\n3,2,21,NotInside\n3,3,20,OverCapacity\n"
  pub denied_json : json_text late_delay untitled ≡
      codes "{\"denials\":[{\"code\":23,\"event\":3,\"reason\":\"Released\",\"slot\":1}],\"entries\":5,"
      ++ codes "\"lags\":[{\"cost\":1,\"lag\":0,\"period\":1,\"received\":2,\"task\":1},"
      ++ codes "{\"cost\":1,\"lag\":2,\"period\":2,\"received\":0,\"task\":2}],"
      ++ codes "\"misses\":[{\"deadline\":2,\"ran\":null,\"sub\":1,\"task\":2}],\"now\":2,\"schedule\":[[[1,1]],[[1,2]]]}"
  -- the scripts: one that opens, makes the events and steps; one of wide settings, without a step; one of a struck event
  pub script : script_text_of 4 three_tasks untitled ≡
      codes "settings,2,3,6,4\njoin,0,1,2,3,0\njoin,0,2,2,3,0\njoin,0,3,2,3,0\nstep,3\n"
  pub wide_script : script_text_of 4096 wide_seen untitled ≡
      codes "pfair,2\nsettings,2,4,8,4096\nleave,9,1\nlimit,4,1\njoin,0,1,1,4,3\ndelay,2,1,5\n"
  pub struck_script : script_text_of 4 struck_third untitled ≡ codes "settings,2,3,6,4\njoin,0,1,2,3,0\njoin,0,2,2,3,0\nstep,3\n"
