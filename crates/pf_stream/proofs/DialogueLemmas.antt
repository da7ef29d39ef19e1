pub mod Answering
pub mod Fronts
pub mod Pieces
pub mod Rounds
