mod Acting
mod Cells
mod Closing
mod Conserving
mod Digits
mod Fronts
mod Gathering
mod Hands
pub mod Known
mod Looks
mod Reading
mod Seats
mod Showing
mod Sums
mod Takes
mod Turns
pub mod Weights
