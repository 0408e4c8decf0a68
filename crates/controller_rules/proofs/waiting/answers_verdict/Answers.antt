use borrow.Author.Tests.{le-ltb, lt-ltb}
use Rattle.votes.specs.Tallies.{tallied-word}
use Rattle.protocol.specs.Rules.{answers_join, verdict}
use Rattle.controller_rules.proofs.waiting.answers_verdict.Goals as goal

pub returns-then-c-gt0 : goal.returns-then-c-gt0
unfolding answers_join verdict
returns-then-c-gt0 c = simp (lt-ltb _ _ c.if-c-gt0.true, c.ack_tally.ensures, c.tallied_word.ensures, c.word_of.ensures, tallied-word)

pub returns : goal.returns
unfolding answers_join
returns c = simp (le-ltb _ _ c.if-c-gt0.false, c.verdict.ensures)
