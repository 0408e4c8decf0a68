pub mod News
pub mod Told
