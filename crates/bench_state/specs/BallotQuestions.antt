-- The questions of an event of ballots (document 02, U14), from what they look at: the acceptor of the controller that it concerns, and the row of its ballot.
use Rattle.std.specs.Prelude.{ℕ, ◌≡◌, refl, not, ◌&&◌, List, [], ◌∷◌, leb}
use Rattle.model.specs.Numbers.{is_none}
use Rattle.model.specs.Ranges.{is_controller, different_controllers}
use Rattle.model.specs.declared.Outcome.{Outcome}
use Rattle.model.specs.declared.BallotEvent.{BallotEvent}
use Rattle.model.specs.declared.BallotEvent.TheVariants.{Open, Carry}
use Rattle.model.specs.declared.Event.TheVariants.{OfBallots}
use Rattle.protocol.specs.declared.Condition.{Condition}
use Rattle.protocol.specs.declared.Shared.{Shared}
use Rattle.protocol.specs.declared.Acceptor.{Acceptor}
use Rattle.protocol.specs.declared.BallotRow.{BallotRow}
use Rattle.protocol.specs.Controllers.{is_running}
use Rattle.protocol.specs.Ballots.{is_ballot, acceptor, row}
use Rattle.protocol.specs.BallotSteps.{ballot_subject, was_sent_in, may_open_ballot}
use Rattle.protocol.specs.Questions.{Facts, Question, ask, questions_of}

-- its ballot
abbrev pub ballot_number : BallotEvent → ℕ
ballot_number (Open i b) = b
ballot_number (Carry i j kind b) = b

abbrev pub ballot_asked : Shared → Condition → Outcome → Acceptor → BallotRow → BallotEvent → List Question
ballot_asked m k word a r (Open i b) = ask 5 m.locked ∷ ask 7 (is_controller m.n i) ∷ ask 14 (leb 1 m.order) ∷ ask 15 (is_running k)
    ∷ ask 28 (may_open_ballot m.n i b a r) ∷ ask 29 (m.own && not (is_none word)) ∷ []
ballot_asked m k word a r (Carry i j kind b) = ask 5 m.locked ∷ ask 7 (different_controllers m.n i j) ∷ ask 14 (leb 1 m.order) ∷ ask 15 (is_running k)
    ∷ ask 28 (is_ballot b) ∷ ask 17 (m.own && was_sent_in kind m.n b i j r) ∷ []

-- they are the table's
pub ballot-asked : (v : Facts) (e : BallotEvent) → questions_of v (OfBallots e)
    ≡ ballot_asked v.shared v.condition v.proposal (acceptor v.ballots (ballot_subject e)) (row v.ballots (ballot_number e)) e
ballot-asked v (Open i b) = refl
ballot-asked v (Carry i j kind b) = refl
