pub mod Drawn
pub mod Examples
pub mod Lines
pub mod Blocks
