-- Each arm is one kind's function, whose contract is the step on that event.
use Rattle.bench_step.proofs.step.Goals as goal

pub returns-in-Lock : goal.returns-in-Lock
returns-in-Lock c = rw c.in-Lock.is c.lock.ensures

pub returns-in-Order : goal.returns-in-Order
returns-in-Order c = rw c.in-Order.is c.open.ensures

pub returns-in-Cast : goal.returns-in-Cast
returns-in-Cast c = rw c.in-Cast.is c.cast.ensures

pub returns-in-Deliver : goal.returns-in-Deliver
returns-in-Deliver c = rw c.in-Deliver.is c.deliver.ensures

pub returns-in-Timeout : goal.returns-in-Timeout
returns-in-Timeout c = rw c.in-Timeout.is c.time_out.ensures

pub returns-in-Decide : goal.returns-in-Decide
returns-in-Decide c = rw c.in-Decide.is c.decide.ensures

pub returns-in-Stop : goal.returns-in-Stop
returns-in-Stop c = rw c.in-Stop.is c.stop.ensures

pub returns-in-Save : goal.returns-in-Save
returns-in-Save c = rw c.in-Save.is c.save.ensures

pub returns-in-Restore : goal.returns-in-Restore
returns-in-Restore c = rw c.in-Restore.is c.restore.ensures

pub returns-in-OfBallots : goal.returns-in-OfBallots
returns-in-OfBallots c = rw c.in-OfBallots.is c.ballot.ensures
