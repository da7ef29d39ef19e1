pub mod Carried
pub mod Plain
pub mod Ways
pub mod Written
