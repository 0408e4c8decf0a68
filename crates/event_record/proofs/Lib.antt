pub mod Rows
pub mod RoundTrips
pub mod ByteForByte
