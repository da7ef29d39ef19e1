-- The law of timelines.
use Rattle.std.specs.Prelude.{◌≡◌, ℕ}
use Rattle.pf_scenario.specs.Scenario.{Plan}
use Rattle.pf_scenario.specs.Edit.{IsScenario}
use Rattle.pf_timeline.specs.Timeline.{KeptRun, StandsFor, past_below}

-- a timeline that stands for a scenario and its first n slots stands for each one with the same settings and the same
-- events below n
abbrev pub TimelinesRestOnPast : Type 0
TimelinesRestOnPast = (s q : Plan) (n : ℕ) (t : KeptRun) → IsScenario q → past_below n s ≡ past_below n q →
    StandsFor s n t → StandsFor q n t
