pub use Rattle.pf_script_run.specs.Carried
pub use Rattle.pf_desk.specs.Desk
pub use Rattle.pf_desk.specs.History
pub use Rattle.pf_verdict.specs.Findings
pub mod Laws
