pub mod Limit
pub mod Tests
pub mod Quantify
pub mod Update
pub mod Lists
pub mod Firsts
pub mod Mask
