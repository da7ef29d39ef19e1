pub mod Halts
pub mod Candidates
pub mod Ranked
pub mod First
pub mod Lawful
pub mod Examples
