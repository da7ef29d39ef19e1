pub mod Handing
pub mod Seen
