pub mod WrittenText
pub mod NothingLost
