use Rattle.protocol.specs.BallotRules.{put_word}
use Rattle.ballot_rules.proofs.owners.put_word.Goals as goal

pub returns : goal.returns
unfolding put_word
returns c = simp (← c.with_word-put.ensures, ← c.accept_arrives-x.ensures, c.putting.ensures)
