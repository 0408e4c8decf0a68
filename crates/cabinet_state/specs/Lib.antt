pub mod Tables
pub mod Words
pub mod States
pub mod Encoding
pub mod FillLaws
pub mod LeaveLaws
