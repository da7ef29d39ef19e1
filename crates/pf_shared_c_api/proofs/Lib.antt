pub mod HandleValues
pub mod Crossing
pub mod RowPlaces
