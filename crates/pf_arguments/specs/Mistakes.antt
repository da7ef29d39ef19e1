pub mod Hints
pub mod Told
pub mod Values
