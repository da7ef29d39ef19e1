mod Growing
mod Joined
mod Pairs
mod Reading
pub mod Unasked
mod Worked
pub mod HintsLemmas
