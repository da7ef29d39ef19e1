pub mod Lines
pub mod Texts
pub mod Crash
pub mod Kept
pub mod Batches
pub mod Recorder
