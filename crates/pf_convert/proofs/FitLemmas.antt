pub mod Filling
pub mod Firsts
pub mod Places
pub mod Ready
pub mod Showing
