-- Stray messages: what any controller does with a vote set that contradicts one that it holds, and what it passes over.
pub mod Dropped
pub mod Strayed
pub mod Ballots
