pub mod Lines
pub mod Answered
pub mod Sits
pub mod Ahead
pub mod Scripts
