pub use Rattle.pf_script_run.specs.Carried
pub use Rattle.pf_plain_script.specs.declared.origin.Origin
pub mod Places
pub mod Replies
pub mod Recount
pub mod Walk
