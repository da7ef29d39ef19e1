pub mod Digits
pub mod Recorded
pub mod Filled
mod Flexible
pub mod ColumnsLemmas
mod RowsLemmas
