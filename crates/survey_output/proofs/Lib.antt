pub mod Ends
pub mod Runs
pub mod Rooms
pub mod Texts
