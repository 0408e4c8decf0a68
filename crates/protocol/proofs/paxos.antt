-- The ballots of an order (document 02, U14): no two words are chosen, and each was put.
pub mod Meet
pub mod Updates
pub mod View
pub mod Invariant
pub mod Changes
pub mod Agreement
pub mod Parts
pub mod Simulation
pub mod Growth
pub mod Kept
pub mod Members
pub mod Environment
pub mod Order
pub mod Chosen
