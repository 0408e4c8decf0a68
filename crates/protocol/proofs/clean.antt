-- Clean orders: their second timeouts decide; what they send; and they exist.
pub mod Log
pub mod Kept
pub mod Added
pub mod Parts
pub mod Steps
pub mod WithoutHelp
pub mod Exact
pub mod Back
pub mod Loops
pub mod Schedule
pub mod Ready
pub mod Reached
pub mod Run
pub mod Exists
