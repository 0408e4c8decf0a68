pub mod Theorem
pub mod Moments
pub mod Readings
pub mod Computed
