-- a line of a trace, and what is shown of one act
pub mod Lines
pub mod Shown
-- the trace of a list of acts, and that it shows what the bench program prints
pub mod Traces
pub mod Claim
-- worked by hand
pub mod Examples
-- laws
pub mod LineLaws
