pub mod Symbols
pub mod Cells
pub mod Shown
pub mod Labels
pub mod Chart
pub mod Examples
