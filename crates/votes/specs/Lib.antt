pub mod VoteSets
pub mod Halves
pub mod Joining
pub mod Tallies
pub mod Contradictions
pub mod OnePass
