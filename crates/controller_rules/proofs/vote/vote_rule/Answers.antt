use Rattle.protocol.specs.Rules.{vote_rule}
use Rattle.controller_rules.proofs.vote.vote_rule.Goals as goal

pub returns : goal.returns
unfolding vote_rule
returns c =
    simp (c.single-own.ensures, c.learn.ensures, c.aim.ensures, c.phase_after_vote.ensures, c.advance-next.ensures, c.recipients-to.ensures, c.votes_to.ensures, c.sending.ensures)
