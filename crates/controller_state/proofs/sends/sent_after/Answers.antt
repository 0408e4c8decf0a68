use Rattle.protocol.specs.Benches.{sent_after}
use Rattle.controller_state.proofs.sends.sent_after.Goals as goal

pub returns : goal.returns
unfolding sent_after
returns c = simp (c.after_send.ensures, c.after_send-2.ensures, c.after_send-3.ensures, c.after_send-4.ensures)
