use Rattle.controller_rules.proofs.Joined.{help-joined}
use Rattle.controller_rules.proofs.arrivals.help_arrives.Goals as goal

pub returns : goal.returns
returns c =
    simp (c.has-takes.ensures, c.phase_in-early.ensures, c.answer_to_call-sent.ensures, c.called.ensures, c.helps.ensures, c.received.ensures) (help-joined _ _)
