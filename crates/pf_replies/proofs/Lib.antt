pub mod Asked
pub mod AtEnd
pub mod Batches
pub mod Carrying
pub mod Courses
pub mod Replying
