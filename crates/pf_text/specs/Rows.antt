pub use Rattle.csv.specs.Records
pub mod Left
pub mod Places
pub mod Rows
