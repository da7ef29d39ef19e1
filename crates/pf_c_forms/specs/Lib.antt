pub mod Asked
pub mod Events
pub mod Kept
pub mod Picks
pub mod Replied
