mod Added
pub mod Named
pub mod Parted
mod Stepped
