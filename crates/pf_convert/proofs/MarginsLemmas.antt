pub mod Bases
pub mod Fitting
pub mod Laws
pub mod Margins
pub mod Works
pub mod Periods
pub mod Switches
pub mod Times
