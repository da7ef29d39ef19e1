pub use Rattle.pf_notes.specs.declared.grounds.Grounds
pub use Rattle.pf_notes.specs.Refusal
pub mod Places
pub mod Late
pub mod Lines
pub mod Made
pub mod Refusals
pub mod Notes
