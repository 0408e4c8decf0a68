pub mod Callers
pub mod Distance
pub mod Lists
pub mod Steps
pub mod Theorem
pub mod Examples
