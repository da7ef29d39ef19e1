pub mod Members
pub mod Events
pub mod Ranks
pub mod Slot
