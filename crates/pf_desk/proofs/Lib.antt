pub mod Histories
pub mod Changes
pub mod Pasts
pub mod Slots
pub mod Entering
pub mod Applying
pub mod Readying
pub mod Metered
pub mod Horizons
pub mod Gathering
pub mod Settling
pub mod Laying
pub mod Runs
mod Uncounted
pub mod Rooms
pub mod Places
