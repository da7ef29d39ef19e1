pub mod Names
pub mod Slots
pub mod Text
pub mod Titled
