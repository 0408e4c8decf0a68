pub mod Asked
pub mod Turns
pub mod Ballots
pub mod Telegrams
pub mod Shown
