pub mod Quotients
pub mod Lacks
pub mod Groups
pub mod Advancing
