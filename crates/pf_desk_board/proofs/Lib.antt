pub mod Awaiting
pub mod Entering
mod Issuing
mod Limits
pub mod Looking
mod Numbering
pub mod Rising
