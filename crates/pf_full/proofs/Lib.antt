pub mod FullParts
pub mod Plain
