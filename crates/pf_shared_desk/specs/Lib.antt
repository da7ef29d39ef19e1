pub mod Calling
pub mod Kept
pub mod Opening
pub mod Reading
