pub use Rattle.pf_full.specs.declared.refusal.Refusal
pub mod Report
pub mod Left
pub mod TaskLeft
pub mod TaskReport
