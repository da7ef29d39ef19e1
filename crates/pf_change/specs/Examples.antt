-- Worked examples of what a script's records changed.
use Rattle.std.specs.Prelude.{◌≡◌, ℕ, Bool, true, false, List, [], ◌++◌, Option, Some, None, Ok, Err, codes}
use Rattle.pf_vocabulary.specs.declared.fault.status.Status.{Status}
use Rattle.pf_vocabulary.specs.declared.fault.status.Status.TheVariants.{BadScript, Done}
use Rattle.pf_vocabulary.specs.declared.options.diff_options.DiffOptions.{DiffOptions}
use Rattle.pf_change.specs.Change.{change_meaning}

abbrev pub asked : Bool → Bool → DiffOptions
asked summary exit_code = record { summary = summary; exit_code = exit_code }

-- with these options a diff since this record tells this of the script, and ends so
abbrev pub Tells : DiffOptions → Option ℕ → List ℕ → List ℕ → Status → Type 0
Tells options since script text status = change_meaning options since script ≡ Ok (record { text = text; status = status })

-- without any it tells this
abbrev pub Changes : Option ℕ → List ℕ → List ℕ → Type 0
Changes since script text = Tells (asked false false) since script text Done

-- three tasks on two processors, for three slots, and then the third is taken out of the plan
abbrev pub struck_script : List ℕ
struck_script = codes "settings,2,3,6,2\njoin,0,1,2,3,0\njoin,0,2,2,3,0\njoin,0,3,2,3,0\nstep,3\nstrike,3\n"

-- another sits in slot 1, nobody in slot 2, and the third has no lag
abbrev pub struck_text : List ℕ
struck_text =
    codes "schedule\nslot,processor,before,after\n1,1,3/1,2/2\n2,0,2/2,\n2,1,3/2,\n"
    ++ codes "lags\ntask,before,after\n3,0,\nmisses\ntask,sub,before,after\ndenials\nevent,slot,before,after\n"

-- before the steps no slot is there to compare, and nobody is inside
abbrev pub stepped_text : List ℕ
stepped_text =
    codes "schedule\nslot,processor,before,after\nlags\ntask,before,after\n1,,0\n2,,0\n"
    ++ codes "misses\ntask,sub,before,after\ndenials\nevent,slot,before,after\n"

-- nothing differs
abbrev pub same_text : List ℕ
same_text =
    codes "schedule\nslot,processor,before,after\nlags\ntask,before,after\nmisses\ntask,sub,before,after\n"
    ++ codes "denials\nevent,slot,before,after\n"

-- what the two desks come to: a task fewer, whose lag was no worse than another's
abbrev pub struck_summary : List ℕ
struck_summary =
    codes "summary\nfigure,before,after\nprocessors,2,2\nbase,3,3\ncap,6,6\nslots,3,3\ntasks,3,2\ndenials,0,0\nmisses,0,0\n"
    ++ codes "first_miss_task,,\nfirst_miss_sub,,\nfirst_miss_deadline,,\nworst_lag,2,0\nworst_lag_period,3,3\nworst_lag_task,3,1\n"
    ++ codes "preemptions,1,0\nmigrations,1,0\ncells,,3\n"

pub record WorkedChanges : Type 0 where
  pub last : Changes None struck_script struck_text
  pub sixth : Changes (Some 6) struck_script struck_text
  pub fifth : Changes (Some 5) struck_script stepped_text
  -- before the settings, and where no record is meant, the desk has done nothing
  pub first : Changes (Some 1) struck_script stepped_text
  pub none : Changes (Some 0) struck_script stepped_text
  -- no record is there
  pub seventh : Changes (Some 7) struck_script same_text
  -- a heading is a record more
  pub headed : Changes (Some 7) (codes "pfair,2\n" ++ struck_script) struck_text
  -- settings alone
  pub alone : Changes None (codes "settings,2,3,6,2\n") same_text
  -- a bad record, whichever is asked for
  pub bad : change_meaning (asked true true) (Some 2) (codes "settings,1,2,2,1\nstep\njoin,0,1") ≡ Err 3
  pub empty : change_meaning (asked false false) None [] ≡ Err 1
  -- the sums before the tables
  pub summed : Tells (asked true false) None struck_script (struck_summary ++ struck_text) Done
  -- the status where something differs, and where nothing does
  pub differs : Tells (asked false true) None struck_script struck_text BadScript
  pub alike : Tells (asked false true) (Some 7) struck_script same_text Done
