pub mod Counted
pub mod Failing
pub mod Faults
pub mod Reading
pub mod Written
pub mod Dialogue
pub mod HeldAnswers
pub mod Pipes
