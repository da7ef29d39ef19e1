mod Ends
mod Entered
mod Gated
mod Issued
mod Planned
mod Scripts
