pub mod TextExamples
pub mod Texts
