pub use Rattle.pf_text.specs.Numbers
pub mod Reading
