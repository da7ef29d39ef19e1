pub mod Faults
pub mod Files
pub mod Found
pub mod Laws
pub mod Lines
pub mod Reports
