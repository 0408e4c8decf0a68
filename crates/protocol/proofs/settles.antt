-- A list in which the controllers settle an order by a ballot, for every n and f (document 02, U14): 1 puts a word and all come to stage 3; ballot 1 is opened,
-- promised and taken by all; and each is given its word.
pub mod Proposer
pub mod Rules
pub mod Ballot
pub mod Given
