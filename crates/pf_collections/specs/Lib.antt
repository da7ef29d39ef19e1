pub mod List
pub mod Table
