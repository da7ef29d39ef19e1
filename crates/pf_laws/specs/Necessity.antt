pub use Rattle.pf_scenario.specs.Scenario
pub use Rattle.pf_scenario.specs.Edit
pub use Rattle.pf_run.specs.Record
pub use Rattle.pf_run.specs.Run
pub use Rattle.pf_tally.specs.Clock
pub use Rattle.pf_tally.specs.Misses
pub mod Bound
