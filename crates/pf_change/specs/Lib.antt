pub use Rattle.pf_diff.specs.Diff
pub mod Change
pub mod Difference
pub mod Examples
pub mod Made
