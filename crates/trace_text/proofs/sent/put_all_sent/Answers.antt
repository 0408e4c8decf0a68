-- `trace_text::sent::put_all_sent` meets its contract.
use Rattle.trace_text.proofs.Told.{wrote_both}
use Rattle.trace.specs.Shown.{sent}
use Rattle.trace_text.proofs.sent.put_all_sent.Goals as goal

pub returns : goal.returns
unfolding sent
returns c =
    wrote_both _ _ c.put_sent.ensures (wrote_both _ _ c.put_sent-2.ensures (wrote_both _ _ c.put_sent-3.ensures c.put_sent-4.ensures))
