-- What is shown of one act: its index and answer; and where it is accepted, what came of it, by the bench before it and the bench after it.
use Rattle.std.specs.Prelude.{ℕ, Bool, cond, not, ◌&&◌, List, [], ◌∷◌, ◌++◌, eqb, leb}
use Rattle.ground.specs.Limit.{limit}
use Rattle.ground.specs.Lists.{nth}
use Rattle.ground.specs.Mask.{has}
use Rattle.model.specs.Numbers.{outcome_number, is_none, says_move}
use Rattle.model.specs.Ranges.{different_controllers, is_ballot}
use Rattle.model.specs.declared.Outcome.{Outcome}
use Rattle.model.specs.declared.Kind.{Kind}
use Rattle.model.specs.declared.Kind.TheVariants.{Vote, Ack, Help, Helped}
use Rattle.model.specs.declared.BallotKind.{BallotKind}
use Rattle.model.specs.declared.BallotKind.TheVariants.{Prepare, Promise, Accept, Accepted}
use Rattle.model.specs.declared.BallotEvent.{BallotEvent}
use Rattle.model.specs.declared.BallotEvent.TheVariants.{Carry}
use Rattle.model.specs.declared.Event.{Event}
use Rattle.model.specs.declared.Event.TheVariants.{Lock, Order, Cast, Deliver, Timeout, Decide, Stop, Save, Restore, OfBallots}
use Rattle.model.specs.declared.Act.{Act}
use Rattle.model.specs.declared.Act.TheVariants.{Play, Back}
use Rattle.protocol.specs.declared.Bench.{Bench}
use Rattle.protocol.specs.declared.BallotRow.{BallotRow}
use Rattle.protocol.specs.declared.Station.{Station}
use Rattle.protocol.specs.declared.Ballots.{Ballots}
use Rattle.protocol.specs.Benches.{fresh_station, of_kind}
use Rattle.protocol.specs.Ballots.{new_row}
use Rattle.protocol.specs.BallotSteps.{was_sent_in}
use Rattle.bench_state.specs.BallotQuestions.{ballot_number}
use Rattle.bench_report.specs.declared.Row.{Row}
use Rattle.bench_report.specs.declared.Summary.{Summary}
use Rattle.bench_report.specs.Lines.{blank_row}
use Rattle.bench_summary.specs.Summary.{summary_of}
use Rattle.trace.specs.Lines.{Line, Answered, Undone, Shows, Sent, Puts, Given, when, each}

-- THE C LINES THAT CHANGED. Two rows are the same;
unfoldable pub same_row : Row → Row → Bool
same_row r s = eqb r.stage s.stage && (eqb (outcome_number r.outcome) (outcome_number s.outcome) && eqb r.position s.position)

-- controller k had a line before (of 1 to n each has one, so none before the lock), and the same
unfoldable pub unchanged : ℕ → ℕ → Row → Row → Bool
unchanged n k old new = leb k n && same_row old new

abbrev pub row_of : Summary → ℕ → Row
row_of s k = nth blank_row s.rows k

unfoldable pub changed_rows : ℕ → List Row → ℕ → List Row → List Line
changed_rows m old n new = each n (λ k. when (not (unchanged m k (nth blank_row old k) (nth blank_row new k))) (Shows k (nth blank_row new k)))

unfoldable pub changed : Summary → Summary → List Line
changed old new = changed_rows old.n old.rows new.n new.rows

-- WHAT WAS SENT: "was that telegram sent in this order" (question 17) now, and not before
abbrev pub is_new : Bool → Bool → Bool
is_new before now = now && not before

unfoldable pub sent_to : Kind → ℕ → ℕ → ℕ → List Line
sent_to kind i before now = each limit (λ j. when (is_new (has before j) (has now j)) (Sent (Deliver i j kind)))

-- controller i's station, as `station` of protocol has it
abbrev pub station_at : List Station → ℕ → Station
station_at l i = nth (fresh_station []) l i

unfoldable pub sent_of : Kind → List Station → List Station → List Line
sent_of kind old new = each limit (λ i. sent_to kind i (of_kind kind (station_at old i).sent).to (of_kind kind (station_at new i).sent).to)

unfoldable pub sent : List Station → List Station → List Line
sent old new = sent_of Vote old new ++ (sent_of Ack old new ++ (sent_of Help old new ++ sent_of Helped old new))

-- in ballot b, from i to j
unfoldable pub new_in : BallotKind → ℕ → ℕ → ℕ → ℕ → BallotRow → BallotRow → Bool
new_in kind n b i j old new = different_controllers n i j && is_new (was_sent_in kind n b i j old) (was_sent_in kind n b i j new)

unfoldable pub sent_from : BallotKind → ℕ → ℕ → ℕ → BallotRow → BallotRow → List Line
sent_from kind n b i old new = each limit (λ j. when (new_in kind n b i j old new) (Sent (OfBallots (Carry i j kind b))))

unfoldable pub sent_in : BallotKind → ℕ → ℕ → BallotRow → BallotRow → List Line
sent_in kind n b old new = each limit (λ i. sent_from kind n b i old new)

unfoldable pub in_ballot : ℕ → ℕ → BallotRow → BallotRow → List Line
in_ballot n b old new = sent_in Prepare n b old new ++ (sent_in Promise n b old new ++ (sent_in Accept n b old new ++ sent_in Accepted n b old new))

-- an event of a ballot sends in that ballot alone, and no other event in any
abbrev pub ballot_at : List BallotRow → ℕ → BallotRow
ballot_at rows b = nth (new_row []) rows b

unfoldable pub ballot_sent : BallotEvent → ℕ → List BallotRow → List BallotRow → List Line
ballot_sent e n old new = cond (is_ballot (ballot_number e)) (in_ballot n (ballot_number e) (ballot_at old (ballot_number e)) (ballot_at new (ballot_number e))) []

-- THE WORD PUT, to the arbiter or for ballots: controller i has put one now, and had not before
unfoldable pub word_put : ℕ → Outcome → Outcome → List Line
word_put i old new = when (is_none old && not (is_none new)) (Puts (Decide i (says_move new)))

unfoldable pub put : List Station → List Station → List Line
put old new = each limit (λ i. word_put i (station_at old i).controller.proposal (station_at new i).controller.proposal)

-- AND GIVEN; and what an event of a ballot sends
unfoldable pub ballots : Event → ℕ → Ballots → Ballots → List Line
ballots (OfBallots e) n old new = ballot_sent e n old.rows new.rows
ballots (Lock n f own) m old new = []
ballots (Order o) n old new = []
ballots (Cast i willing target) n old new = []
ballots (Deliver i j kind) n old new = []
ballots (Timeout i) n old new = []
ballots (Decide i move) n old new = []
ballots (Stop i) n old new = []
ballots (Save i) n old new = []
ballots (Restore i) n old new = []

unfoldable pub given : Event → List Line
given (Decide i move) = Given (Decide i move) ∷ []
given (Lock n f own) = []
given (Order o) = []
given (Cast i willing target) = []
given (Deliver i j kind) = []
given (Timeout i) = []
given (Stop i) = []
given (Save i) = []
given (Restore i) = []
given (OfBallots e) = []

-- what an accepted event sent, and the words put and given
unfoldable pub told : Event → Bench → Bench → List Line
told e old new =
    sent old.stations new.stations ++ (ballots e new.shared.n old.ballots new.ballots ++ (put old.stations new.stations ++ given e))

-- what came of an accepted act: after a step back, which event it undid and the C lines alone
unfoldable pub came_of : ℕ → Act → Bench → Bench → List Line
came_of undone (Play e) old new = changed (summary_of old) (summary_of new) ++ told e old new
came_of undone Back old new = Undone undone ∷ changed (summary_of old) (summary_of new)

unfoldable pub shown : ℕ → ℕ → Act → ℕ → Bench → Bench → List Line
shown k undone a answer old new = Answered k answer ∷ cond (eqb answer 0) (came_of undone a old new) []
