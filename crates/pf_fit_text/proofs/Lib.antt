pub mod Listed
pub mod Examples
pub mod Places
pub mod Pieces
