-- What a timeline shows, and when it stands for a scenario.
use Rattle.std.specs.Prelude.{◌≡◌, ◌⊎◌, ℕ, ◌+◌, ◌≤◌, Option, List}
use Rattle.pf_order.specs.declared.pick.Pick.{Pick}
use Rattle.pf_scenario.specs.System.{System}
use Rattle.pf_scenario.specs.Scenario.{Plan}
use Rattle.pf_scenario.specs.declared.event.Numbered.{Numbered}
use Rattle.pf_run.specs.declared.denied.Denied.{Denied}
use Rattle.pf_run.specs.Laws.{events_below}
use Rattle.pf_run.specs.RunRows.{AreOfRun}
use Rattle.pf_timeline.specs.Checkpoints.{near_slots}

-- what the run over some slots rests on: the settings, and the events of those slots
pub record Past : Type 0 where
  pub settings : System
  pub events : List Numbered

-- the past of the slots below n
abbrev pub past_below : ℕ → Plan → Past
past_below n s = record { settings = s.settings; events = events_below n s.events }

-- a timeline: how many slots it has, their rows and their denials, the past that they rest on, how far its checkpoints lie
-- apart, in slots, and from which slot on it has near checkpoints too
pub record KeptRun : Type 0 where
  pub now : ℕ
  pub rows : List (List (Option Pick))
  pub denials : List Denied
  pub past : Past
  pub every : ℕ
  pub near : ℕ

-- the timeline stands for the scenario and its first n slots
pub record StandsFor (s : Plan) (n : ℕ) (t : KeptRun) : Type 0 where
  pub slots : t.now ≡ n
  pub past : t.past ≡ past_below n s
  pub of_run : AreOfRun s n t.rows t.denials

-- the timeline's past agrees with this scenario in the settings and on the slots below `from`
pub record AgreesBelow (s : Plan) (from : ℕ) (t : KeptRun) : Type 0 where
  pub settings : t.past.settings ≡ s.settings
  pub events : events_below from t.past.events ≡ events_below from s.events

-- near checkpoints from this slot on are those of the last slots of so many: of all, or of 256 at least
abbrev pub ReachesBack : ℕ → ℕ → Type 0
ReachesBack near now = (near ≡ 0) ⊎ (near + near_slots ≤ now)
