pub mod Load
pub mod Ran
pub mod Jobs
pub mod Examples
