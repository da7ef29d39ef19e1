pub mod Sending
pub mod Taking
pub mod DialogueLemmas
pub mod HeldAnswersLemmas
