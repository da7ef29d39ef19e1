pub mod Bad
pub mod Changes
pub mod Keys
pub mod Refused
pub mod Shown
pub mod SlotsChanged
pub mod Steps
pub mod Telling
