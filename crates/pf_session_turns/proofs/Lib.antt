mod Both
mod Answered
mod Rows
mod Stops
