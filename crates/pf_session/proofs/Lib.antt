pub mod Alike
pub mod Edited
pub mod Few
pub mod Held
pub mod Steps
