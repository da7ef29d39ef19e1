pub mod Counted
pub mod Asked
pub mod Agreeing
