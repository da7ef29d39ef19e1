pub mod Bare
pub mod Inside
pub mod Judging
pub mod Altered
pub mod Early
