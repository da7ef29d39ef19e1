pub mod Weights
pub mod Serving
pub mod Timely
pub mod Fits
