use Rattle.protocol.specs.Calls.{awaits_decision}
use Rattle.controller.proofs.lifecycle.awaits_decision.Goals as goal

pub returns-then-is_standby : goal.returns-then-is_standby
unfolding awaits_decision
returns-then-is_standby c = simp (← c.is_standby.ensures, c.if-is_standby.true)

pub returns-then-is_running : goal.returns-then-is_running
unfolding awaits_decision
returns-then-is_running c = simp (← c.is_standby.ensures, c.if-is_standby.false, ← c.is_running.ensures, c.if-is_running.true, c.phase_in.ensures)

pub returns : goal.returns
unfolding awaits_decision
returns c = simp (← c.is_standby.ensures, c.if-is_standby.false, ← c.is_running.ensures, c.if-is_running.false)
