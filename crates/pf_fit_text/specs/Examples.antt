-- Worked examples of fits: what is found of a scenario, as text and as JSON.
use Rattle.std.specs.Prelude.{◌≡◌, ℕ, true, None, Some, [], ◌∷◌, ◌++◌, codes}
use Rattle.pf_scenario.specs.Scenario.{Plan}
use Rattle.pf_scenario.specs.declared.event.Event.TheVariants.{Join, Limit}
use Rattle.pf_run.specs.RunRows.{rows_in, denials_in}
use Rattle.pf_run.specs.Examples.{plan_with}
use Rattle.pf_verdict.specs.Desk.{Seen}
use Rattle.pf_vocabulary.specs.Names.Titled.{untitled}
use Rattle.pf_vocabulary.specs.declared.names.titles.Titles.{Titles}
use Rattle.pf_vocabulary.specs.declared.names.unit.Unit.TheVariants.{Microsecond}
use Rattle.pf_verdict.specs.Findings.{findings_of}
use Rattle.pf_fit_text.specs.Json.{fit_json}
use Rattle.pf_fit_text.specs.Text.{fit_text, front_text}
use Rattle.pf_fit_text.specs.declared.carried.Carried.{Carried}

-- what is seen of the scenario after n slots
abbrev pub seen_after : Plan → ℕ → Seen
seen_after s n =
    record { version = 0; state = record { plan = s; now = n }; rows = rows_in s n; denials = denials_in s n }

-- processors go out of use and come back, and in one slot too few are left
abbrev pub limited : Seen
limited =
    seen_after (plan_with 3 12 24 (Join 0 1 2 3 0 ∷ Join 0 2 2 3 0 ∷ Join 0 3 1 4 0 ∷ Limit 4 2 ∷ Limit 9 3 ∷ Limit 9 1 ∷ Limit 10 2 ∷ [])) 12

abbrev pub limits_carried : Carried
limits_carried = record { base = 12; cap = 24; processors = 3; now = 12; commands = 19; events = 7 }

-- a task that runs far ahead of its releases
abbrev pub ahead : Seen
ahead = seen_after (plan_with 1 6 6 (Join 0 1 2 6 1000 ∷ Join 0 2 1 3 0 ∷ [])) 24

-- of two tasks that ask for 15 units together the second one is denied
abbrev pub over_cap : Seen
over_cap = seen_after (plan_with 1 12 12 (Join 0 1 3 4 0 ∷ Join 0 2 1 2 0 ∷ [])) 1

abbrev pub ahead_titles : Titles
ahead_titles = record {
  is_plan = true;
  names = record { task = 1; name = codes "ahead" } ∷ [];
  slot = Some (record { length = 250; unit = Microsecond });
}

pub record WorkedFits : Type 0 where
  pub limits : fit_text limits_carried None untitled (findings_of limited 0) [] ≡
      codes "fits so far: 1.5834 of 1 processors in slot 9, 0.5834 too much\n"
      ++ codes "in 12 slots: 0 refused, 0 denied, 0 not reached, 0 windows missed\n"
      ++ codes "overloaded: in 1 slots the load is above the processors in use, first in slot 9\n"
      ++ codes "by theorem: they are asked for 0.5834 quanta too many in all, so no window is ever more than 0 slots late in them\n"
      ++ codes "\n"
      ++ codes "task  weight  utilization  response  lag              preemptions/job  migrations/job  fits up to\n"
      ++ codes "1     2/3     0.6667       2 of 3    -0.666 to 0.000  0.00             0.00            -\n"
      ++ codes "2     2/3     0.6667       3 of 3    -0.666 to 0.666  0.00             0.00            -\n"
      ++ codes "3     1/4     0.2500       2 of 4    -0.750 to 0.250  0.00             0.34            -\n"
      ++ codes "\n"
      ++ codes "worst: response 3 of 3 (task 2), lag 0.666 (task 2); 0 preemptions, 1 migrations\n"
  pub limits_json : fit_json limits_carried untitled (findings_of limited 0)
      (record { denied = codes "[]"; missed = codes "[]"; refused = codes "[]" }) ≡
      codes "{\"base\":12,\"cap\":24,\"commands\":19,\"denied\":[],\"events\":7,\"missed\":[],\"now\":12,\"overloaded\":{\"first\":9,\"late\":0"
      ++ codes ",\"slots\":1,\"units\":7},\"processors\":3,\"proved\":{\"run\":false,\"settings\":false},\"refused\":[],\"slot\":null,\"tasks\":"
      ++ codes "[{\"cost\":2,\"grow\":null,\"jobs\":4,\"lag_max\":0,\"lag_min\":-2,\"migrations\":0,\"missed\":0,\"name\":null,\"period\":3,\"pre"
      ++ codes "emptions\":0,\"quanta\":8,\"response_max\":2,\"response_min\":2,\"tardiness_max\":0,\"task\":1},{\"cost\":2,\"grow\":null,\"jo"
      ++ codes "bs\":4,\"lag_max\":2,\"lag_min\":-2,\"migrations\":0,\"missed\":0,\"name\":null,\"period\":3,\"preemptions\":0,\"quanta\":8,\"re"
      ++ codes "sponse_max\":3,\"response_min\":2,\"tardiness_max\":0,\"task\":2},{\"cost\":1,\"grow\":null,\"jobs\":3,\"lag_max\":1,\"lag_min"
      ++ codes "\":-3,\"migrations\":1,\"missed\":0,\"name\":null,\"period\":4,\"preemptions\":0,\"quanta\":3,\"response_max\":2,\"response_mi"
      ++ codes "n\":1,\"tardiness_max\":0,\"task\":3}],\"tightest\":{\"free\":-7,\"load\":19,\"processors\":1,\"room\":12,\"slot\":9},\"unreache"
      ++ codes "d\":0,\"verdict\":\"fits so far\",\"worst\":{\"lag\":2,\"migrations\":1,\"preemptions\":0,\"response\":2}}\n"
  pub early : fit_text (record { base = 6; cap = 6; processors = 1; now = 24; commands = 26; events = 2 }) None ahead_titles (findings_of ahead 0) [] ≡
      codes "fits: 0.6667 of 1 processors in slot 0, 0.3333 free\n"
      ++ codes "in 24 slots: 0 refused, 0 denied, 0 not reached, 0 windows missed\n"
      ++ codes "by theorem: in each slot stepped the load is within the processors in use, so no window is missed in them\n"
      ++ codes "by theorem: the processors in use carry the cap, so no window is missed later either, whatever joins, leaves or is delayed\n"
      ++ codes "\n"
      ++ codes "task  name   weight  utilization  response  time             lag              preemptions/job  migrations/job  fits up to\n"
      ++ codes "1     ahead  2/6     0.3334       3 of 6    750us of 1500us  -8.000 to 0.000  0.13             0.00            4/6\n"
      ++ codes "2            1/3     0.3334       2 of 3    500us of 750us   -0.666 to 0.333  0.00             0.00            2/3\n"
      ++ codes "\n"
      ++ codes "worst: response 2 of 3 (task 2), lag 0.333 (task 2); 1 preemptions, 0 migrations\n"
  pub none : fit_text (record { base = 2; cap = 2; processors = 1; now = 0; commands = 1; events = 1 }) None untitled (findings_of (seen_after (plan_with 1 2 2 (Join 0 1 1 2 0 ∷ [])) 0) 0) [] ≡
      codes "fits so far: no slot was stepped\n"
      ++ codes "in 0 slots: 0 refused, 0 denied, 1 not reached, 0 windows missed\n"
      ++ codes "by theorem: the processors in use carry the cap, so no window is missed later either, whatever joins, leaves or is delayed\n"
  pub denied : front_text (record { base = 12; cap = 12; processors = 1; now = 1; commands = 3; events = 2 }) (Some 15) (findings_of over_cap 0) ≡
      codes "does not fit: in 1 slots: 0 refused, 1 denied, 0 not reached, 0 windows missed\n"
      ++ codes "tightest: 0.7500 of 1 processors in slot 0, 0.2500 free\n"
      ++ codes "all joins together: 1.2500 of 1 processors\n"
