pub mod Bytes
pub mod Codes
pub mod CodeLaws
pub mod Rows
pub mod Codec
pub mod Promises
pub mod Frames
