pub mod Amid
pub mod Answers
pub mod Edits
pub mod Held
pub mod Made
pub mod Session
pub mod Showings
