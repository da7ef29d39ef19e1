pub mod Steps
pub mod Owners
pub mod Noted
pub mod Parts
pub mod Greatest
pub mod Whole
pub mod Sheets
pub mod Examples
