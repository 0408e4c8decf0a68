-- What an event of ballots makes of the acceptor of the controller that it concerns, and of the row of its ballot (document 02, U14).
use Rattle.std.specs.Prelude.{ℕ, ◌%◌, cond, eqb, Result}
use Rattle.model.specs.Refusals.{replied}
use Rattle.model.specs.declared.Outcome.{Outcome}
use Rattle.model.specs.declared.Outcome.TheVariants.{None}
use Rattle.model.specs.declared.BallotKind.{BallotKind}
use Rattle.model.specs.declared.BallotKind.TheVariants.{Prepare, Promise, Accept, Accepted}
use Rattle.model.specs.declared.BallotEvent.{BallotEvent}
use Rattle.model.specs.declared.BallotEvent.TheVariants.{Open, Carry}
use Rattle.protocol.specs.declared.Acceptor.{Acceptor}
use Rattle.protocol.specs.declared.BallotAnswer.{BallotAnswer}
use Rattle.protocol.specs.declared.BallotRow.{BallotRow}
use Rattle.protocol.specs.declared.Tally.{Tally}
use Rattle.protocol.specs.declared.Shared.{Shared}
use Rattle.protocol.specs.declared.Station.{Station}
use Rattle.protocol.specs.Ballots.{report}
use Rattle.protocol.specs.BallotRules.{unanswered, prepare_arrives, accept_arrives, promise_arrives, open_ballot}
use Rattle.protocol.specs.BallotSteps.{ballot_subject, row_after}
use Rattle.protocol.specs.Questions.{first_no}
use Rattle.bench_state.specs.BallotQuestions.{ballot_number, ballot_asked}
use Rattle.bench_turns.specs.declared.BallotTurn.{BallotTurn}

-- which ballot the sender's promise reports, and the word of its row
abbrev pub reported_ballot : BallotEvent → BallotRow → ℕ
reported_ballot (Open i x) r = 0
reported_ballot (Carry i j kind x) r = report r i

abbrev pub word_in : ℕ → BallotRow → Outcome
word_in last r = cond (eqb last 0) None r.tally.word

-- a message of ballot b arrives, from i, which reports a ballot and its word: "A taken changes nothing where it comes in"
unfoldable pub carried_answer : BallotKind → ℕ → ℕ → ℕ → ℕ → Outcome → Outcome → Acceptor → Tally → BallotAnswer
carried_answer Prepare n b i last w own a t = prepare_arrives b a t
carried_answer Promise n b i last w own a t = promise_arrives n b i last w own a t
carried_answer Accept n b i last w own a t = accept_arrives b t.word a t
carried_answer Accepted n b i last w own a t = unanswered a t

-- the controller's answer in ballot b: it has put `own`, and the word reported is w
unfoldable pub ballot_answer : ℕ → ℕ → BallotEvent → Outcome → Acceptor → BallotRow → Outcome → BallotAnswer
ballot_answer n b (Open i x) own a r w = open_ballot n b i own a r.tally
ballot_answer n b (Carry i j kind x) own a r w = carried_answer kind n b i (report r i) w own a r.tally

-- what controller i's answer leaves
abbrev pub turn_with : ℕ → BallotRow → BallotAnswer → BallotTurn
turn_with i r x = record { acceptor = x.acceptor; row = row_after r i x }

-- the event asked and played on the station of its controller; a refused one leaves all as it is
unfoldable pub ballot_turn : Shared → Station → Acceptor → BallotRow → Outcome → BallotEvent → Result BallotTurn ℕ
ballot_turn m s a r w e = replied (first_no (ballot_asked m s.controller.condition s.controller.proposal a r e))
    (turn_with (ballot_subject e) r (ballot_answer m.n (ballot_number e % 256) e s.controller.proposal a r w))
