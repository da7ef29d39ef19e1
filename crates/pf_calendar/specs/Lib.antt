pub mod Queues
pub mod Invariant
pub mod Steps
