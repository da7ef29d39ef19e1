pub use Rattle.pf_script_results.specs.Recount
pub use Rattle.pf_script_results.specs.Carried
pub mod Fit
pub mod Items
pub mod Joins
