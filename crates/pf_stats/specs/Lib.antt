pub mod Processors
pub mod Stats
