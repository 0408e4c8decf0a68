use Rattle.cabinet_turns.specs.Telegrams.{promise_sent}
use Rattle.cabinet_turns.proofs.telegrams.nth_promise.Goals as goal

pub returns-then-no_promise_sent : goal.returns-then-no_promise_sent
unfolding promise_sent
returns-then-no_promise_sent c = simp (← c.no_promise_sent.ensures, c.if-no_promise_sent.true)

pub returns : goal.returns
unfolding promise_sent
returns c = simp (← c.no_promise_sent.ensures, c.if-no_promise_sent.false, ← c.promise_message.ensures, c.nth_of_one.ensures)
