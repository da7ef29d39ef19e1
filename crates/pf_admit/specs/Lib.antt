pub use Rattle.pf_window.specs.Share
pub use Rattle.pf_window.specs.Window
pub use Rattle.pf_window.specs.Group
pub mod Member
pub mod Admission
pub mod Refusals
