pub mod Counting
pub mod FieldExamples
pub mod Lined
pub mod GrammarExamples
pub mod Lines
pub mod Opening
pub mod Places
pub mod Reading
pub mod Records
pub mod ScriptExamples
pub mod ToldExamples
pub mod CheckLemmas
pub mod PlanLemmas
mod PlanCheckLemmas
mod MessagesLemmas
