-- The three parts of what an answer in a ballot sends, one after the other (`ballot_messages`): where it gives a promise, puts a word, and accepts another's.
use Rattle.std.specs.Prelude.{ℕ, cond, not, ◌&&◌, List, [], ◌∷◌}
use Rattle.model.specs.declared.BallotKind.TheVariants.{Accept, Accepted}
use Rattle.model.specs.declared.BallotMessage.{BallotMessage}
use Rattle.protocol.specs.declared.Identity.{Identity}
use Rattle.protocol.specs.declared.BallotAnswer.{BallotAnswer}
use Rattle.protocol.specs.Ballots.{owner}
use Rattle.protocol.specs.BallotCalls.{ballot_to, ballot_to_others, is_owner, promise_sent}

unfoldable pub promised : Identity → ℕ → BallotAnswer → List BallotMessage
promised me b x = cond x.promise.given (promise_sent me b x) []

unfoldable pub proposed : Identity → ℕ → BallotAnswer → List BallotMessage
proposed me b x = cond x.proposes (ballot_to_others me Accept b x.tally.word) []

unfoldable pub accepted_by : Identity → ℕ → BallotAnswer → List BallotMessage
accepted_by me b x = cond (x.accepts && not (is_owner me b)) (ballot_to me Accepted b 0 x.acceptor.word (owner me.n b) ∷ []) []
