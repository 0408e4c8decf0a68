-- Demand 3: the statement's moments, carried to the arguments.
pub mod Bound
pub mod Theorem
