pub mod Batched
pub mod BatchedDesk
pub mod Carried
pub mod Commands
pub mod CommandsRead
pub mod Course
