pub mod Handles
pub mod Opening
pub mod Taking
pub mod Commanding
pub mod Reading
pub mod Rows
