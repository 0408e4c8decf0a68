pub mod FileLaws
pub mod ReplyLaws
pub mod OutputLaws
pub mod Remaining
pub mod Votes
pub mod Filled
