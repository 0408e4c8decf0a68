pub mod Events
pub mod ByteForByte
