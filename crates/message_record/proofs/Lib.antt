pub mod Asked
pub mod RoundTrips
pub mod Sentences
pub mod ByteForByte
pub mod Refusals
