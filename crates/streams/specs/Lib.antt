-- what holds of whatever the system says
pub mod Streams
