pub use Rattle.pf_scenario.specs.Edit
pub use Rattle.pf_run.specs.Computed
pub use Rattle.pf_run.specs.RunRows
pub mod Joins
