pub mod Retold
pub mod Titles
