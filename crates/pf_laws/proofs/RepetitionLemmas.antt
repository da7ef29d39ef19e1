pub mod Shifted
pub mod Ordered
pub mod Start
pub mod Lags
pub mod Multiples
pub mod Choices
pub mod Spans
pub mod Repeats
