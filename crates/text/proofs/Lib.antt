mod Digits
pub mod Wrote
