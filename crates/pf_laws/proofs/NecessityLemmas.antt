pub mod Pigeonhole
pub mod Eligible
pub mod Missed
