use native.Mathlib.Omega.{arith}
use Rattle.model.specs.RefusalLaws.{asked}
use Rattle.bench_state.proofs.BallotReplies.{in_row}
use Rattle.bench_state.proofs.ballots.carry_question.Goals as goal

pub overflow_cast-ballot : goal.overflow_cast-ballot
overflow_cast-ballot c = let k = in_row _ (rw c.is_ballot.ensures at (asked _ _ c.ask-5.ensures c.in_ok-ask-5.was)) in omega (arith, k.1)
