-- Every running gate hears: what each running controller has done with what was delivered to it, and that it cannot be left waiting.
pub mod Counts
pub mod Listening
pub mod RuleSteps
pub mod Events
pub mod Moments
pub mod Hears
pub mod Later
pub mod Opening
pub mod Onward
pub mod Lists
pub mod Tests
pub mod Needed
pub mod Theorem
