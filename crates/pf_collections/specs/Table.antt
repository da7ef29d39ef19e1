pub mod Grown
pub mod Lends
pub mod Lists
