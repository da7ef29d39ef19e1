pub mod Answer
pub mod Head
pub mod Ranks
pub mod Events
pub mod Whereabouts
pub mod Slot
pub mod Examples
