pub mod Finding
pub mod FirstFaults
pub mod Kinds
pub mod Plainly
pub mod Plans
pub mod ReadRecords
pub mod Shown
