pub mod ExamplesLemmas
pub mod IdealLemmas
pub mod JoinsLemmas
mod NecessityLemmas
pub mod PromiseLemmas
pub mod ReachLemmas
mod RepetitionLemmas
pub mod StaticSetsLemmas
