pub mod Ranking
pub mod Upcoming
pub mod Rule
pub mod Seat
pub mod Point
pub mod Laws
pub mod Examples
