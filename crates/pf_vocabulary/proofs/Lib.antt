mod NamesLemmas
mod QuestionsLemmas
pub mod TaskLinesLemmas
pub mod TaskWordsLemmas
pub mod TasksLemmas
