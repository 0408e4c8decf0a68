-- the limits, what is printed, and an example
pub mod Limits
pub mod Lines
pub mod Report
pub mod Listing
-- how long it can be
pub mod Digits
