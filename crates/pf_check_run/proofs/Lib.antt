pub mod Answered
pub mod Appended
pub mod Unnumbered
