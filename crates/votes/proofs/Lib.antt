pub mod VoteLaws
pub mod JoinLaws
pub mod MemberLaws
pub mod Computed
mod Pass
