pub mod Short
pub mod Rows
pub mod Says
pub mod Names
pub mod Plain
pub mod Whole
