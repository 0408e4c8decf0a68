pub mod Turns
pub mod BallotTurns
