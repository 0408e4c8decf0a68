-- Every list of events, from a new bench on: its moments and orders, and what each bench that it leads to keeps.
pub mod Moments
pub mod OrderNumbers
pub mod Start
pub mod Reach
