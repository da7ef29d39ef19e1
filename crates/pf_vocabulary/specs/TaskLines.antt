pub use Rattle.pf_text.specs.Pieces
pub use Rattle.pf_text.specs.Numbers
pub mod Lines
