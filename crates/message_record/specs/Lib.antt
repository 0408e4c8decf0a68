pub mod BallotMessages
pub mod Messages
pub mod Telegrams
pub mod OldCabinets
pub mod Forms
pub mod ByteForByte
pub mod Refusals
