-- `event_fields` meets its contract: each arm of the match is the event's line of `event_fields`.
use Rattle.event_record.specs.Events.{event_fields}
use Rattle.event_record.proofs.event.event_fields.Goals as goal

pub returns-in-Lock : goal.returns-in-Lock
unfolding event_fields
returns-in-Lock c = simp (c.in-Lock.is, c.from.ensures)

pub returns-in-Order : goal.returns-in-Order
unfolding event_fields
returns-in-Order c = simp c.in-Order.is

pub returns-in-Cast : goal.returns-in-Cast
unfolding event_fields
returns-in-Cast c = simp (c.in-Cast.is, c.from-in-Cast.ensures)

pub returns-in-Deliver : goal.returns-in-Deliver
unfolding event_fields
returns-in-Deliver c = simp (c.in-Deliver.is, c.from-in-Deliver.ensures)

pub returns-in-Timeout : goal.returns-in-Timeout
unfolding event_fields
returns-in-Timeout c = simp c.in-Timeout.is

pub returns-in-Decide : goal.returns-in-Decide
unfolding event_fields
returns-in-Decide c = simp (c.in-Decide.is, c.from-in-Decide.ensures)

pub returns-in-Stop : goal.returns-in-Stop
unfolding event_fields
returns-in-Stop c = simp c.in-Stop.is

pub returns-in-Save : goal.returns-in-Save
unfolding event_fields
returns-in-Save c = simp c.in-Save.is

pub returns-in-Restore : goal.returns-in-Restore
unfolding event_fields
returns-in-Restore c = simp c.in-Restore.is

pub returns-in-OfBallots : goal.returns-in-OfBallots
unfolding event_fields
returns-in-OfBallots c = simp (c.in-OfBallots.is, c.ballot_fields.ensures)
