pub mod Grown
pub mod Past
pub mod Fronts
pub mod Points
pub mod Comparing
