use Rattle.message_record.specs.Messages.{knows_for_kind}
use Rattle.message_record.proofs.questions.knows_for_kind.Goals as goal

pub returns-in-Vote : goal.returns-in-Vote
unfolding knows_for_kind
returns-in-Vote c = simp (c.in-Vote.is, c.insert.ensures)

pub returns-in-Ack : goal.returns-in-Ack
unfolding knows_for_kind
returns-in-Ack c = simp (c.in-Ack.is, c.has.ensures)

pub returns-in-Help : goal.returns-in-Help
unfolding knows_for_kind
returns-in-Help c = simp c.in-Help.is

pub returns-in-Helped : goal.returns-in-Helped
unfolding knows_for_kind
returns-in-Helped c = simp (c.in-Helped.is, c.has-in-Helped.ensures)
