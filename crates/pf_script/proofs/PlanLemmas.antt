pub mod GrammarExamples
pub mod LabelPlaces
pub mod GivenLabels
