pub use Rattle.pf_why_answer.specs.Answer
pub mod Answered
pub mod Held
pub mod Shown
