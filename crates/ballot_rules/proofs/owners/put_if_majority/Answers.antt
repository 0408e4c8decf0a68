use Rattle.protocol.specs.BallotRules.{put_if_majority}
use Rattle.ballot_rules.proofs.owners.put_if_majority.Goals as goal

pub returns-then-is_majority : goal.returns-then-is_majority
unfolding put_if_majority
returns-then-is_majority c = simp (← c.is_majority.ensures, c.if-is_majority.true, ← c.word_for-w.ensures, c.put_word.ensures)

pub returns : goal.returns
unfolding put_if_majority
returns c = simp (← c.is_majority.ensures, c.if-is_majority.false, c.unanswered.ensures)
