-- what is counted, and what is promised of the figures
pub mod Ended
pub mod Surveys
pub mod Claim
-- the questions, and the page
pub mod Questions
pub mod Page
-- worked by hand
pub mod Examples
