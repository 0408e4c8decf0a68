pub mod ByteLaws
pub mod CodecLaws
pub mod FrameLaws
pub mod Unlisted
