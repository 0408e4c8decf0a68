-- `second_timeout` meets its contract: the rule is put together from its parts (`second_from`), and each part is what one call ensures.
use Rattle.protocol.specs.Rules.{help_votes, verdict}
use Rattle.votes.specs.Tallies.{tallied-word, tallied_with_lem}
use Rattle.controller_rules.proofs.Joined.{second_from}
use Rattle.controller_rules.proofs.second.second_timeout.Goals as goal

pub returns : goal.returns
unfolding help_votes verdict
returns c =
    second_from _ _ _ _ _ _ _ _ _ _
    (simp (c.tallied_with-votes.ensures, c.ack_tally-acks.ensures, tallied_with_lem))
    (simp (c.word_of-word.ensures, c.tallied_word.ensures, c.ack_tally-acks.ensures, tallied-word))
    c.concluded-k.ensures
    (simp (c.in_phase-next.ensures, c.outcome_in.ensures))
    c.helped_after-helped.ensures
    c.word_after-put.ensures
    _ c.condition_after.ensures
    _ c.position_after-position.ensures
    _ c.waits_after.ensures
    _ (simp (c.helps-sends.ensures, c.calls_after.ensures))
    _ c.or_else-proposal.ensures
