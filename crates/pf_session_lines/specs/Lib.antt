pub mod Asked
pub mod Faults
pub mod Heard
pub mod Lines
pub mod Values
pub mod Words
