-- The questions of an event of ballots: they look at the row of its ballot only where there is one.
use Prim.Native.Nat.{ℕ, ◌≤◌}
use mathlib.Core.Path.{◌≡◌}
use mathlib.Core.Bool.{true, false}
use lib.Dec.{leb}
use borrow.Author.Tests.{leb-true}
use Rattle.ground.specs.Tests.{and_l, and_r}
use Rattle.model.specs.QuestionLaws.{AllYes}
use Rattle.model.specs.declared.Outcome.{Outcome}
use Rattle.model.specs.declared.BallotEvent.{BallotEvent}
use Rattle.model.specs.declared.BallotEvent.TheVariants.{Open, Carry}
use Rattle.model.specs.declared.Event.TheVariants.{OfBallots}
use Rattle.protocol.specs.declared.Condition.{Condition}
use Rattle.protocol.specs.declared.Shared.{Shared}
use Rattle.protocol.specs.declared.Acceptor.{Acceptor}
use Rattle.protocol.specs.declared.BallotRow.{BallotRow}
use Rattle.protocol.specs.Ballots.{ballot_limit, is_ballot}
use Rattle.protocol.specs.Questions.{Facts, unless, first_no, questions_of}
use Rattle.bench_state.specs.BallotQuestions.{ballot_number, ballot_asked}

-- with no row, 28 or a question before it refuses
pub row_alike : (m : Shared) (k : Condition) (w : Outcome) (a : Acceptor) (r r' : BallotRow) (e : BallotEvent) → is_ballot (ballot_number e) ≡ false
    → first_no (ballot_asked m k w a r e) ≡ first_no (ballot_asked m k w a r' e)
unfolding first_no unless
row_alike m k w a r r' (Open i b) n = rw n
row_alike m k w a r r' (Carry i j kind b) n = rw n

-- an accepted event has one
pub has-row : (v : Facts) (e : BallotEvent) → AllYes (questions_of v (OfBallots e)) → is_ballot (ballot_number e) ≡ true
has-row v (Open i b) y = and_l _ _ (and_l _ _ (and_l _ _ y.1.1.1.1.0))
has-row v (Carry i j kind b) y = y.1.1.1.1.0

pub in_row : (b : ℕ) → is_ballot b ≡ true → (1 ≤ b) × (b ≤ ballot_limit)
unfolding is_ballot
in_row b e = (leb-true 1 b (and_l (leb 1 b) (leb b ballot_limit) e), leb-true b ballot_limit (and_r (leb 1 b) (leb b ballot_limit) e))
