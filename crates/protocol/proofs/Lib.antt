pub mod CallLaws
-- The trials, computed.
pub mod Computed
-- the ballots of an order (document 02, U14)
pub mod paxos
pub mod view
pub mod invariant
pub mod gates
pub mod clean
pub mod lists
pub mod claim
pub mod counting
pub mod ranges
pub mod contradictions
pub mod strays
pub mod alone
pub mod hearing
pub mod settles
-- which checkpoint a controller has
pub mod Checkpoints
-- the count of gates still open
pub mod OpenGates
