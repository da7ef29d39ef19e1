pub mod Places
pub mod Blanks
pub mod Digits
pub mod Widths
pub mod Examples
