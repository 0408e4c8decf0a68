-- the schedules, what is printed, and what a schedule's end shows
pub mod Schedules
pub mod Output
pub mod Claim
-- how large a figure can be
pub mod Bounds
