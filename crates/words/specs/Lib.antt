pub mod Words
pub mod Numbers
-- laws
pub mod WordLaws
pub mod LineLaws
pub mod NumberLaws
pub mod Joined
