pub mod Drilled
pub mod Gates
pub mod Rounds
pub mod Taken
