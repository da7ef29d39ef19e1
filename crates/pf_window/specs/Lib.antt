pub use Rattle.pf_weight.specs.declared.task.TheConstants
pub use Rattle.pf_weight.specs.Share
pub mod Window
pub mod Group
pub mod Windows
