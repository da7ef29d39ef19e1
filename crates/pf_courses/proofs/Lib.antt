pub mod Cuts
pub mod Activity
pub mod Built
pub mod Order
pub mod Tracks
pub mod Ranked
pub mod InUse
pub mod OfRun
