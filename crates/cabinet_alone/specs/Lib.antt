pub mod Acts
pub mod Runs
pub mod CabinetAlone
pub mod SettledWord
pub mod Restart
pub mod SentAgain
