-- What the bench can reach: everything stays in range, and what is sent or saved passes the questions of its record.
pub mod Ranges
pub mod BallotsBack
pub mod Reached
