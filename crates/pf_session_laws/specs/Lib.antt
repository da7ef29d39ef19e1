pub mod Resumed
pub mod Crashed
pub mod Shown
