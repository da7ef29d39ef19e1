pub mod Answered
pub mod Held
pub mod Judged
pub mod Unserved
