-- what is printed, and that it always is
pub mod Output
pub mod EitherForm
pub mod AlwaysPrints
-- the count of gates still open, for other languages
pub mod OpenGates
-- what is printed for some events, and trial 1, from bytes to text
pub mod Examples
pub mod Listing
