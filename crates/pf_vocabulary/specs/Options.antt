pub mod FailLists
pub mod FitFormats
pub mod Formats
pub mod Ranges
