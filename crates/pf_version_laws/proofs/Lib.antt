mod Numbers
mod Numbering
pub mod Saying
mod Writing
mod Reading
pub mod Whole
mod Told
