-- the line, what it promises, and small runs of it
pub mod Turns
pub mod Claim
pub mod Examples
