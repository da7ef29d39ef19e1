mod Boarded
pub mod Kept
pub mod Stepping
