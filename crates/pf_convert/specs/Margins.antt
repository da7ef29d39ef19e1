pub mod Fitting
pub mod Laws
pub mod Margins
pub mod Works
pub mod Times
pub mod Periods
pub mod Switches
