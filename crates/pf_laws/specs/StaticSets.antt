pub use Rattle.pf_weight.specs.Share
pub use Rattle.pf_weight.specs.Weighed
pub use Rattle.pf_window.specs.Window
pub use Rattle.pf_window.specs.Group
pub mod Periodic
pub mod Choice
pub mod Laws
pub mod Service
