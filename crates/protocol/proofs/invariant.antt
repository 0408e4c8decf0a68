-- What holds of every bench of an order, and that every rule keeps it; from it, agreement.
pub mod Invariant
pub mod Growth
pub mod TrueVotes
pub mod Exclusion
pub mod Commit
pub mod Waiting
pub mod Keeping
pub mod Words
pub mod SecondTimeout
pub mod Arrivals
pub mod Decisions
pub mod Orders
