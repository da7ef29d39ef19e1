mod Comparing
mod Drilling
pub mod FaultLines
mod Journals
pub mod Quiet
pub mod RunNotes
mod Running
mod Sittings
pub mod Telling
mod WordsAnswered
