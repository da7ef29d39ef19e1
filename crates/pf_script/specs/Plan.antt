pub mod Heading
pub mod Labels
pub mod Parsing
pub mod Progress
