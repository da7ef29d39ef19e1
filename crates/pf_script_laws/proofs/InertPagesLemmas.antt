pub mod Texts
pub mod Values
pub mod Names
pub mod Whole
pub mod Pages
