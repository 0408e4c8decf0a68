-- `controller::comes` meets its contract: the tests in the order of `ballot_comes`, by what each test's call ensures.
use Rattle.protocol.specs.BallotCalls.{ballot_comes}
use Rattle.controller.proofs.ballots.comes.Goals as goal

pub returns-then-not-addressed : goal.returns-then-not-addressed
unfolding ballot_comes
returns-then-not-addressed c = simp (← c.addressed.ensures, c.if-not-addressed.true)

pub returns-then-not-is_ballot : goal.returns-then-not-is_ballot
unfolding ballot_comes
returns-then-not-is_ballot c = simp (← c.addressed.ensures, c.if-not-addressed.false, ← c.is_ballot.ensures, c.if-not-is_ballot.true)

pub returns-then-not-ballot_suits : goal.returns-then-not-ballot_suits
unfolding ballot_comes
returns-then-not-ballot_suits c =
    simp (← c.addressed.ensures, c.if-not-addressed.false, ← c.is_ballot.ensures, c.if-not-is_ballot.false, ← c.ballot_suits.ensures, c.if-not-ballot_suits.true)

pub returns : goal.returns
unfolding ballot_comes
returns c =
    simp (← c.addressed.ensures, c.if-not-addressed.false, ← c.is_ballot.ensures, c.if-not-is_ballot.false, ← c.ballot_suits.ensures, c.if-not-ballot_suits.false, c.of_owner.ensures)
