pub mod Xorshift
pub mod Claim
