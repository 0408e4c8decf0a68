pub mod Lengths
pub mod Shows
pub mod Held
pub mod RoundTrips
pub mod LineForLine
