-- No event of the bench meets vote sets that contradict each other.
pub mod Clear
pub mod Untouched
