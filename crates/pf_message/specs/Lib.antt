pub mod Form
pub mod Nearness
pub mod Positions
pub mod Shell
