-- texts as bytes, and what it is to write one
pub mod Text
pub mod Writing
-- laws
pub mod TextLaws
pub mod Lengths
pub mod WritingLaws
pub mod Writers
