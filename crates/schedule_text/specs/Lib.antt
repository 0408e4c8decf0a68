-- the form of a line; what a line and a text stand for, and the text of records
pub mod Forms
pub mod Texts
-- laws
pub mod Turning
pub mod FormLaws
pub mod TextLaws
-- what is promised
pub mod BothWays
pub mod LineForLine
