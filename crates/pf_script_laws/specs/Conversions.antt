pub use Rattle.pf_convert.specs.Conversion.Conversions
pub use Rattle.pf_convert.specs.Conversion.Script
pub use Rattle.pf_convert.specs.Words.Reading
pub use Rattle.pf_script.specs.Plan.Parsing
pub mod Records
pub mod Read
pub mod Written
