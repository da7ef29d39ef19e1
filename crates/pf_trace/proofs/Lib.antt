pub mod Filling
pub mod Chapters
pub mod Steps
pub mod Listing
pub mod Levels
