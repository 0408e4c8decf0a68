pub mod Answers
pub mod LastShown
pub mod Computed
