-- What a tally of a scenario's run rests on.
use Rattle.std.specs.Prelude.{◌≡◌, ℕ, length}
use Rattle.pf_scenario.specs.Scenario.{Plan}
use Rattle.pf_scenario.specs.Edit.{IsScenario}
use Rattle.pf_run.specs.Run.{events_in_force}
use Rattle.pf_run.specs.Computed.{run_of}
use Rattle.pf_tally.specs.Log.{IsLog}
use Rattle.pf_collections.specs.Table.Lists.{noted_of}
use Rattle.pf_tally.specs.Own.{AreDiaries}
use Rattle.pf_tally.specs.Quanta.{slots_of}
use Rattle.pf_tally.specs.declared.ledger.Ledger.{Ledger}

-- the ledger is of the scenario's run over n slots
pub record IsLedger (s : Plan) (n : ℕ) (ledger : Ledger) : Type 0 where
  pub scenario : IsScenario s
  pub settings : ledger.settings ≡ s.settings
  pub now : ledger.now ≡ n
  pub slots : length (run_of s n) ≡ n
  pub events : ledger.events.items ≡ events_in_force s (run_of s n) n
  pub log : IsLog s.settings n ledger.events.items
  pub diaries : AreDiaries ledger.events.items ledger.diaries
  pub quanta : (task : ℕ) → noted_of ledger.quanta task ≡ slots_of (run_of s n) task
