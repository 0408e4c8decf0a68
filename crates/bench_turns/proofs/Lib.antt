pub mod OneStation
pub mod BallotLaws
