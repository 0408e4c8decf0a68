-- what is claimed: levels, heads and pairs; what the answer says of them. A reader needs these two alone.
pub mod Heads
pub mod Judged
-- the answer from the ends, how the code compares levels, and laws
pub mod Ends
pub mod Heights
pub mod Integers
pub mod Examples
