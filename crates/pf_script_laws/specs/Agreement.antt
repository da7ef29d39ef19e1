pub use Rattle.pf_fit_command.specs.Fit
pub use Rattle.pf_plain_script.specs.Plain
pub use Rattle.pf_version_laws.specs.Retold
pub mod Fitted
pub mod Agree
