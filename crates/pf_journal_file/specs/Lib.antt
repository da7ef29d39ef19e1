pub mod Faults
pub mod Hosts
pub mod Sizes
pub mod Watches
