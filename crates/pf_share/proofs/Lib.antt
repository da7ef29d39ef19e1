mod Adding
mod Awaiting
pub mod Crossing
mod Entering
mod Growing
mod Issuing
mod Limits
mod Looking
mod Numbering
mod Publishing
mod Rising
mod Tying
