pub mod Windows
pub mod Course
pub mod Activity
pub mod Admitted
pub mod Cut
pub mod Listing
pub mod Built
