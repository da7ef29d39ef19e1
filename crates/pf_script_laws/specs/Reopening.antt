pub mod Reopen
pub mod Taken
pub mod Renumbered
pub mod Whole
pub mod Examples
pub mod Asked
pub mod Rerun
pub mod Titled
