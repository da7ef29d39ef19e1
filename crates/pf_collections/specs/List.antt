pub mod Sharing
pub mod Grouping
pub mod WithRoom
