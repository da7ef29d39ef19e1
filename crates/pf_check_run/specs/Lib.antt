pub use Rattle.pf_fit_command.specs.Fit
pub mod Answers
