-- The events in force in a scenario's run.
use Rattle.std.specs.Prelude.{◌≡◌, ℕ, length}
use Rattle.pf_scenario.specs.Scenario.{Plan}
use Rattle.pf_scenario.specs.Edit.{IsScenario}
use Rattle.pf_run.specs.Run.{events_in_force}
use Rattle.pf_run.specs.Computed.{run_of}
use Rattle.pf_tally.specs.Log.{IsLog}
use Rattle.pf_tally.specs.Own.{AreDiaries}
use Rattle.pf_tally.specs.declared.journal.Journal.{Journal}

-- the journal is of the scenario's run over n slots
pub record IsJournal (s : Plan) (n : ℕ) (journal : Journal) : Type 0 where
  pub scenario : IsScenario s
  pub settings : journal.settings ≡ s.settings
  pub now : journal.now ≡ n
  pub slots : length (run_of s n) ≡ n
  pub events : journal.events.items ≡ events_in_force s (run_of s n) n
  pub log : IsLog s.settings n journal.events.items
  pub diaries : AreDiaries journal.events.items journal.diaries
