pub mod ListLemmas
mod TableLemmas
