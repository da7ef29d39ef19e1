pub mod Windows
pub mod Told
