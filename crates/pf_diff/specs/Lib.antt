pub mod Changes
pub mod Diff
pub mod Written
pub mod Summary
pub mod Differing
pub mod Examples
