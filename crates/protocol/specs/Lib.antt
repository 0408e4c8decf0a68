-- document 01, "Words with values" (vote sets: `votes`; numbers and routes: `model`) and "A controller's rules"
pub mod Controllers
pub mod Rules
pub mod Calls
pub mod Sequence
pub mod SequenceLaws
-- document 02, U14: the ballots of an order, and their rules
pub mod Ballots
pub mod BallotRules
pub mod BallotSteps
pub mod BallotCalls
-- "The parts": the bench; "Questions put to a record or event"; what an event does
pub mod Counts
pub mod CountLaws
pub mod Benches
pub mod Events
pub mod Questions
pub mod QuestionLaws
pub mod AskedInSequence
pub mod Steps
-- "The bench program": what is shown
pub mod Display
-- what a closed run goes through
pub mod Computing
-- "The words of demand 3"; the messages of a clean order; that neither is empty
pub mod Claim
pub mod CleanOrders
pub mod CleanMessages
pub mod NotHollow
-- document 02, U5
pub mod Termination
-- what else holds of every list
pub mod SentOnce
pub mod OpenCount
pub mod KeptCheckpoints
pub mod Reach
pub mod NoContradiction
pub mod BallotClaim
pub mod BallotsNotHollow
pub mod BallotStrays
pub mod Strays
pub mod Alone
-- "Trials"
pub mod Rows
pub mod RowWords
pub mod RuleTrials
pub mod StandbyTrials
pub mod QuestionTrials
pub mod EarlyCallTrials
pub mod StrayTrials
pub mod AloneTrials
pub mod BallotTrials
pub mod BallotCallTrials
pub mod Trials
