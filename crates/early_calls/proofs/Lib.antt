pub mod Rules
pub mod Timeouts
pub mod Views
pub mod Theorem
