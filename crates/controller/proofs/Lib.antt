mod BallotSequence
mod OneByOne
