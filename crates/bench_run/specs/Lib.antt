pub mod Schedule
pub mod Memory
pub mod Runs
