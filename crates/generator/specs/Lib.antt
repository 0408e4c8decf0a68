-- what is drawn, the file, and what is promised of it
pub mod Drawing
pub mod File
pub mod Claim
-- what the program writes
pub mod Output
-- laws
pub mod DrawingLaws
