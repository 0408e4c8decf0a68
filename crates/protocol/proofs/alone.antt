-- A controller alone, through any calls: what it holds tells one word of each controller that it knows.
pub mod Telling
pub mod Sound
pub mod Arriving
pub mod Voting
pub mod Timeouts
pub mod Standing
pub mod Theorem
