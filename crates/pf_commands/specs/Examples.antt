-- Worked examples of what scripts mean.
use Rattle.std.specs.Prelude.{◌≡◌, ℕ, List, [], ◌++◌, Option, Some, None, codes}
use Rattle.pf_vocabulary.specs.Look.Looks.{usual_look}
use Rattle.pf_vocabulary.specs.Names.Titled.{untitled}
use Rattle.pf_vocabulary.specs.declared.options.format.Format.{Format}
use Rattle.pf_vocabulary.specs.declared.options.format.Format.TheVariants.{Schedule, Tables, Svg}
use Rattle.pf_vocabulary.specs.declared.fault.range_fault.RangeFault.TheVariants.{NotWithin}
use Rattle.pf_vocabulary.specs.Options.Ranges.{whole}
use Rattle.pf_commands.specs.Meaning.{End, Done, BadRecord, Outside, script_meaning}

-- in the format, the script, which has no titles, is a text and ends so
abbrev pub Means : Format → List ℕ → List ℕ → End → Type 0
Means format script text end = script_meaning format untitled None script ≡ record { text = text; end = end }

-- three tasks on two processors
abbrev pub three_tasks_script : List ℕ
three_tasks_script = codes "settings,2,3,6,2\njoin,0,1,2,3,0\njoin,0,2,2,3,0\njoin,0,3,2,3,0\nstep,3\n"

abbrev pub three_tasks_replies : List ℕ
three_tasks_replies = codes "ready\nevent 1\nevent 2\nevent 3\nslot 0: 1/1 2/1\nslot 1: 1/2 3/1\nslot 2: 2/2 3/2\n"

abbrev pub three_tasks_schedule : List ℕ
three_tasks_schedule = codes "slot,p0,p1\n0,1/1,2/1\n1,1/2,3/1\n2,2/2,3/2\n"

abbrev pub three_tasks_lags : List ℕ
three_tasks_lags = codes "task,cost,period,received,lag\n1,2,3,2,0\n2,2,3,2,0\n3,2,3,2,0\n"

-- scripts that are carried out to their end
pub record WholeScripts : Type 0 where
  pub tables : Means Tables three_tasks_script
      (three_tasks_replies ++ codes "schedule\n" ++ three_tasks_schedule ++ codes "lags\n" ++ three_tasks_lags
      ++ codes "misses\ntask,sub,deadline,ran\ndenials\nslot,event,code,reason\n") Done
  pub schedule : Means (Schedule whole) three_tasks_script three_tasks_schedule Done
  -- after the heading the same script
  pub second_version : Means (Schedule whole) (codes "pfair,2\n" ++ three_tasks_script) three_tasks_schedule Done

-- the format of some of these slots
abbrev pub schedule_of : Option ℕ → Option ℕ → Format
schedule_of from to = Schedule (record { from = from; to = to })

-- ranges of the three slots that are stepped, and ranges of others
pub record Ranges : Type 0 where
  pub one : Means (schedule_of (Some 1) (Some 2)) three_tasks_script (codes "slot,p0,p1\n1,1/2,3/1\n") Done
  pub from : Means (schedule_of (Some 2) None) three_tasks_script (codes "slot,p0,p1\n2,2/2,3/2\n") Done
  pub to : Means (schedule_of None (Some 1)) three_tasks_script (codes "slot,p0,p1\n0,1/1,2/1\n") Done
  pub empty : Means (schedule_of (Some 3) (Some 3)) three_tasks_script (codes "slot,p0,p1\n") Done
  pub beyond : Means (schedule_of None (Some 4)) three_tasks_script [] (Outside (NotWithin 3))
  pub behind : Means (schedule_of (Some 4) None) three_tasks_script [] (Outside (NotWithin 3))
  pub turned : Means (schedule_of (Some 2) (Some 1)) three_tasks_script [] (Outside (NotWithin 3))
  pub picture : Means (Svg (record { from = None; to = Some 4 }) usual_look) three_tasks_script [] (Outside (NotWithin 3))
  -- a bad record comes first
  pub bad : Means (schedule_of None (Some 4)) (codes "settings,1,2,2,1\nstep\njoin,0,1") [] (BadRecord 3)

-- scripts with a bad record
pub record BadScripts : Type 0 where
  -- the last record has no line end
  pub third : Means Tables (codes "settings,1,2,2,1\nstep\njoin,0,1") (codes "ready\nslot 0: -\n") (BadRecord 3)
  pub plan_unshown : Means (Schedule whole) (codes "settings,1,2,2,1\nstep\njoin,0,1") [] (BadRecord 3)
  pub second : Means Tables (codes "settings,1,2,2,1\nleave,0,1,9\n") (codes "ready\n") (BadRecord 2)
  pub settings : Means Tables (codes "settings,65,1,1,1\n") [] (BadRecord 1)
  pub empty : Means Tables [] [] (BadRecord 1)
  -- a refused command is no bad record
  pub refused : Means Tables (codes "settings,1,2,2,1\nstrict,strike,7\nstep,0\n") (codes "ready\nrefused 10 EventNotFound\n") (BadRecord 3)
  -- no record lies after the heading, or a second heading
  pub heading_alone : Means Tables (codes "pfair,2\n") [] (BadRecord 2)
  pub heading_twice : Means Tables (codes "pfair,2\npfair,2\n") [] (BadRecord 2)
  -- a limit is a record of version 2 alone
  pub limit : Means Tables (codes "settings,2,3,6,2\nlimit,1,1\n") (codes "ready\n") (BadRecord 2)

pub record WorkedScripts : Type 0 where
  pub whole : WholeScripts
  pub ranges : Ranges
  pub bad : BadScripts
