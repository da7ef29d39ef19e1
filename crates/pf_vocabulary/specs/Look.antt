pub mod Sizes
pub mod Looks
