pub mod Words
pub mod Commas
