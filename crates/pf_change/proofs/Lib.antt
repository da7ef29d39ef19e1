pub mod Courses
pub mod Ends
pub mod Records
pub mod Worked
