pub mod Asked
pub mod Carrying
