pub mod SideBySide
pub mod Examples
pub mod Counted
pub mod Pages
