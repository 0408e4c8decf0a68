-- `trace_text::ballots::put_in_ballot` meets its contract.
use Rattle.trace_text.proofs.Told.{wrote_both}
use Rattle.trace.specs.Shown.{in_ballot}
use Rattle.trace_text.proofs.ballots.put_in_ballot.Goals as goal

pub returns : goal.returns
unfolding in_ballot
returns c =
    wrote_both _ _ c.put_sent_in.ensures (wrote_both _ _ c.put_sent_in-2.ensures (wrote_both _ _ c.put_sent_in-3.ensures c.put_sent_in-4.ensures))
