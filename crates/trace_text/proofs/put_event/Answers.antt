-- `trace_text::put_event` meets its contract.
use Rattle.trace_text.proofs.Told.{wrote_both}
use Rattle.trace.specs.Shown.{told}
use Rattle.trace_text.proofs.put_event.Goals as goal

pub returns : goal.returns
unfolding told
returns c =
    wrote_both _ _ c.put_all_sent.ensures (wrote_both _ _ c.put_ballots.ensures (wrote_both _ _ c.put_words.ensures c.put_given.ensures))
