-- What may be asked of a controller in a ballot (document 02, U14), in its lock or alone in a cabinet: the rules behind the tests of lock, condition and address.
-- Beside the controller there is what it has promised and accepted, and what it has counted for that ballot, if it is its own. A call that does not fit changes nothing.
use Rattle.std.specs.Prelude.{ℕ, Bool, cond, not, ◌&&◌, List, [], ◌∷◌, ◌++◌, map, take, drop, eqb, leb, ◌≡◌, slice_get, Option, option_to_list}
use Rattle.ground.specs.Mask.{has, collect}
use Rattle.votes.specs.VoteSets.{empty}
use Rattle.model.specs.Numbers.{is_none}
use Rattle.model.specs.Ranges.{different_controllers, is_ballot}
use Rattle.model.specs.declared.Outcome.{Outcome}
use Rattle.model.specs.declared.Outcome.TheVariants.{None}
use Rattle.model.specs.declared.BallotKind.{BallotKind}
use Rattle.model.specs.declared.BallotKind.TheVariants.{Prepare, Promise, Accept, Accepted}
use Rattle.model.specs.declared.BallotMessage.{BallotMessage}
use Rattle.message_record.specs.BallotMessages.{ballot_suits}
use Rattle.protocol.specs.declared.Identity.{Identity}
use Rattle.protocol.specs.declared.Controller.{Controller}
use Rattle.protocol.specs.declared.Acceptor.{Acceptor}
use Rattle.protocol.specs.declared.Tally.{Tally}
use Rattle.protocol.specs.declared.BallotAnswer.{BallotAnswer}
use Rattle.protocol.specs.Controllers.{runs}
use Rattle.protocol.specs.Calls.{valid_identity}
use Rattle.protocol.specs.Sequence.{members}
use Rattle.protocol.specs.Ballots.{owner}
use Rattle.protocol.specs.BallotRules.{unanswered, prepare_arrives, accept_arrives, promise_arrives, open_ballot}

-- "Those standing by, and all at c = 0, take no part." `own`: does the lock settle the word by ballots
unfoldable pub takes_part : Identity → Bool → Controller → Bool
takes_part me own c = valid_identity me && own && runs c

-- **Open**: its own ballot, not opened before (its own promise is counted then) and not below its highest promise, once it has put a word
unfoldable pub may_open_alone : Identity → ℕ → Acceptor → Tally → Bool
may_open_alone me b a t = is_ballot b && eqb (owner me.n b) me.id && not (has t.from me.id) && leb a.highest b

unfoldable pub open_call : Identity → Bool → ℕ → Controller → Acceptor → Tally → BallotAnswer
open_call me own b c a t = cond (takes_part me own c && may_open_alone me b a t && not (is_none c.proposal)) (open_ballot me.n b me.id c.proposal a t) (unanswered a t)

-- "a controller passes over any [telegram] of another order, n or f, or meant for another controller"
unfoldable pub ballot_addressed : Identity → BallotMessage → Bool
ballot_addressed me m = eqb m.order me.order && eqb m.n me.n && eqb m.f me.f && eqb m.to me.id && different_controllers me.n m.from me.id

-- an ask and a put come from the ballot's owner; a promise and a taken go to the owner, which has opened it
unfoldable pub is_of_owner : BallotKind → ℕ → ℕ → ℕ → ℕ → Tally → Bool
is_of_owner Prepare n b from to t = eqb (owner n b) from
is_of_owner Promise n b from to t = eqb (owner n b) to && has t.from to
is_of_owner Accept n b from to t = eqb (owner n b) from
is_of_owner Accepted n b from to t = eqb (owner n b) to && has t.from to

-- "A taken changes nothing where it comes in"
unfoldable pub ballot_arrives : BallotKind → ℕ → ℕ → ℕ → ℕ → Outcome → Outcome → Acceptor → Tally → BallotAnswer
ballot_arrives Prepare n b from last word own a t = prepare_arrives b a t
ballot_arrives Promise n b from last word own a t = promise_arrives n b from last word own a t
ballot_arrives Accept n b from last word own a t = accept_arrives b word a t
ballot_arrives Accepted n b from last word own a t = unanswered a t

-- may it come, and so? One that reading would refuse (9 and 28) is passed over
unfoldable pub ballot_comes : Identity → BallotMessage → Tally → Bool
ballot_comes me m t = ballot_addressed me m && is_ballot m.ballot && ballot_suits m && is_of_owner m.kind me.n m.ballot m.from me.id t

unfoldable pub receive_ballot : Identity → Bool → BallotMessage → Controller → Acceptor → Tally → BallotAnswer
receive_ballot me own m c a t = cond (takes_part me own c && ballot_comes me m t) (ballot_arrives m.kind me.n m.ballot m.from m.last m.word c.proposal a t) (unanswered a t)

-- What an answer sends in ballot b, in its sequence: an owner that promises to itself "sends all others an ask", any other sends its promise to the owner; "The put
-- goes to all others"; "a taken to the owner".
unfoldable pub others : ℕ → ℕ → ℕ
others n i = collect n (λ j. not (eqb j i))

abbrev pub ballot_to : Identity → BallotKind → ℕ → ℕ → Outcome → ℕ → BallotMessage
ballot_to me kind b last word j = record { kind = kind; n = me.n; f = me.f; from = me.id; to = j; order = me.order; votes = empty; ballot = b; last = last; word = word }

unfoldable pub ballot_to_others : Identity → BallotKind → ℕ → Outcome → List BallotMessage
ballot_to_others me kind b word = map (ballot_to me kind b 0 word) (members me.n (others me.n me.id))

abbrev pub is_owner : Identity → ℕ → Bool
is_owner me b = eqb (owner me.n b) me.id

unfoldable pub promise_sent : Identity → ℕ → BallotAnswer → List BallotMessage
promise_sent me b x = cond (is_owner me b) (ballot_to_others me Prepare b None) (ballot_to me Promise b x.promise.last x.promise.word (owner me.n b) ∷ [])

unfoldable pub ballot_messages : Identity → ℕ → BallotAnswer → List BallotMessage
ballot_messages me b x = cond x.promise.given (promise_sent me b x) [] ++ (cond x.proposes (ballot_to_others me Accept b x.tally.word) []
    ++ cond (x.accepts && not (is_owner me b)) (ballot_to me Accepted b 0 x.acceptor.word (owner me.n b) ∷ []) [])

-- what is promised of the message that has k before it, as in Sequence
pub record NthBallotMessageOf (me : Identity) (b : ℕ) (x : BallotAnswer) (k : ℕ) (r : Option BallotMessage) : Type 0 where
  pub answer : r ≡ slice_get (ballot_messages me b x) k
  pub values : option_to_list r ≡ take 1 (drop k (ballot_messages me b x))
