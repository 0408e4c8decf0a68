-- What an event of ballots is asked on the bench, and what it does there (document 02, U14).
use Rattle.std.specs.Prelude.{ℕ, Bool, cond, not, ◌&&◌, List, [], ◌∷◌, eqb, leb}
use Rattle.ground.specs.Lists.{put}
use Rattle.ground.specs.Mask.{has, insert}
use Rattle.model.specs.Numbers.{is_none}
use Rattle.model.specs.Ranges.{is_controller, different_controllers}
use Rattle.model.specs.Questions.{Question, ask}
use Rattle.model.specs.declared.Outcome.{Outcome}
use Rattle.model.specs.declared.BallotKind.{BallotKind}
use Rattle.model.specs.declared.BallotKind.TheVariants.{Prepare, Promise, Accept, Accepted}
use Rattle.model.specs.declared.BallotEvent.{BallotEvent}
use Rattle.model.specs.declared.BallotEvent.TheVariants.{Open, Carry}
use Rattle.protocol.specs.declared.Acceptor.{Acceptor}
use Rattle.protocol.specs.declared.BallotAnswer.{BallotAnswer}
use Rattle.protocol.specs.declared.BallotRow.{BallotRow}
use Rattle.protocol.specs.declared.Ballots.{Ballots}
use Rattle.protocol.specs.Ballots.{owner, is_ballot, acceptor, row, report}
use Rattle.protocol.specs.BallotRules.{prepare_arrives, accept_arrives, promise_arrives, open_ballot}

-- the controller that it concerns
abbrev pub ballot_subject : BallotEvent → ℕ
ballot_subject (Open i b) = i
ballot_subject (Carry i j kind b) = j

-- 7
abbrev pub ballot_controllers : ℕ → BallotEvent → Bool
ballot_controllers n (Open i b) = is_controller n i
ballot_controllers n (Carry i j kind b) = different_controllers n i j

-- 17: was that telegram sent? The owner asks all others when it promises to itself, and puts its word to all others; a promise and a taken go to the owner.
unfoldable pub was_sent_in : BallotKind → ℕ → ℕ → ℕ → ℕ → BallotRow → Bool
was_sent_in Prepare n b i j r = eqb (owner n b) i && has r.promised_by i
was_sent_in Promise n b i j r = eqb (owner n b) j && has r.promised_by i
was_sent_in Accept n b i j r = eqb (owner n b) i && not (is_none r.tally.word)
was_sent_in Accepted n b i j r = eqb (owner n b) j && has r.accepted_by i

-- 28: "a ballot outside 1 to 255, or one to open that is not the controller's, was opened or is below its highest promise". One was opened when its owner
-- promised to itself.
abbrev pub may_open_ballot : ℕ → ℕ → ℕ → Acceptor → BallotRow → Bool
may_open_ballot n i b a r = is_ballot b && eqb (owner n b) i && not (has r.promised_by i) && leb a.highest b

-- the questions after 15: 28 and 29, "a ballot to open at a lock with c = 0 or by a controller with no word put"; and of a delivery 28 and 17
abbrev pub ballot_questions : ℕ → Bool → Ballots → Outcome → BallotEvent → List Question
ballot_questions n own s word (Open i b) = ask 28 (may_open_ballot n i b (acceptor s i) (row s b)) ∷ ask 29 (own && not (is_none word)) ∷ []
ballot_questions n own s word (Carry i j kind b) = ask 28 (is_ballot b) ∷ ask 17 (own && was_sent_in kind n b i j (row s b)) ∷ []

-- a ballot after controller i's answer: "the bench notes each taking"
unfoldable pub row_after : BallotRow → ℕ → BallotAnswer → BallotRow
row_after r i x = record {
  tally = x.tally;
  promised_by = cond x.promise.given (insert r.promised_by i) r.promised_by;
  lasts = cond x.promise.given (put r.lasts i x.promise.last) r.lasts;
  accepted_by = cond x.accepts (insert r.accepted_by i) r.accepted_by;
}

unfoldable pub answered : Ballots → ℕ → ℕ → BallotAnswer → Ballots
answered s i b x = record { acceptors = put s.acceptors i x.acceptor; rows = put s.rows b (row_after (row s b) i x) }

-- the word that j's promise of ballot b reports: the one put in the ballot that it had last accepted
abbrev pub reported_word : Ballots → ℕ → ℕ → Outcome
reported_word s b j = (row s (report (row s b) j)).tally.word

-- a telegram of ballot b from i arrives at j, which has put `own`: "A taken changes nothing where it comes in"
unfoldable pub carried : ℕ → Ballots → Outcome → ℕ → ℕ → BallotKind → ℕ → Ballots
carried n s own i j Prepare b = answered s j b (prepare_arrives b (acceptor s j) (row s b).tally)
carried n s own i j Promise b = answered s j b (promise_arrives n b i (report (row s b) i) (reported_word s b i) own (acceptor s j) (row s b).tally)
carried n s own i j Accept b = answered s j b (accept_arrives b (row s b).tally.word (acceptor s j) (row s b).tally)
carried n s own i j Accepted b = s

-- an accepted event of ballots; its controller has put `own`
unfoldable pub ballots_after : ℕ → Ballots → Outcome → BallotEvent → Ballots
ballots_after n s own (Open i b) = answered s i b (open_ballot n b i own (acceptor s i) (row s b).tally)
ballots_after n s own (Carry i j kind b) = carried n s own i j kind b
