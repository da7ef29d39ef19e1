pub mod Carrying
pub mod Digits
pub mod Fractions
pub mod Reading
pub mod Named
pub mod Told
pub mod Quoting
