pub mod FileFaults
pub mod Ranges
