pub mod Share
pub mod Weighed
pub mod Refusals
