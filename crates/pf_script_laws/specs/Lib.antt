pub mod Agreement
pub mod Conversions
pub mod InertPages
pub mod PlanFits
pub mod Reopening
pub mod Repairs
pub mod Titles
