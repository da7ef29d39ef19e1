pub mod Sums
pub mod Courses
