pub use Rattle.pf_weight.specs.Share
pub use Rattle.pf_window.specs.Window
pub use Rattle.pf_window.specs.Group
pub use Rattle.pf_order.specs.Priority
pub use Rattle.pf_order.specs.KeyOf
pub mod Reach
pub mod Demand
pub mod Laws
