pub mod Replies
pub mod BallotReplies
