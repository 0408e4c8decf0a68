pub mod Input
pub mod NothingLost
pub mod Printed
-- laws
pub mod InputLaws
pub mod Room
