pub mod Cells
pub mod Elements
pub mod Examples
pub mod Json
pub mod Lines
pub mod Rows
pub mod Text
pub mod WorstLine
