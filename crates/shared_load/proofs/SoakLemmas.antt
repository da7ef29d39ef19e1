pub mod Boarded
pub mod Kept
pub mod Seating
