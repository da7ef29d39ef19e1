pub mod Examples
pub mod Ideal
pub mod Joins
pub mod Necessity
pub mod Promise
pub mod Reach
pub mod Repetition
pub mod StaticSets
