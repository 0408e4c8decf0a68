use Rattle.cabinet.specs.Calls.{sent_length}
use Rattle.cabinet.proofs.lent.length_sent.Goals as goal

pub returns-in-None : goal.returns-in-None
unfolding sent_length
returns-in-None c = simp c.in-None.is

pub returns-in-Some : goal.returns-in-Some
unfolding sent_length
returns-in-Some c = simp (c.in-Some.is, c.telegram_length.ensures.0)
