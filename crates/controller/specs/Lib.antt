pub mod BallotParts
