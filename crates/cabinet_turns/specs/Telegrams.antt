-- All telegrams that a cabinet has sent in its order, one after the other, so that they can be sent again: those of kinds 1 to 4 in their sequence; then of ballots its
-- last promise, its last acceptance, and those of its own ballot that it opened last. Each is byte for byte what was sent.
use Rattle.std.specs.Prelude.{cond, not, ◌||◌, List, [], ◌∷◌, ◌++◌, map, eqb, Some}
use Rattle.model.specs.Numbers.{is_none}
use Rattle.model.specs.declared.Outcome.TheVariants.{None}
use Rattle.model.specs.declared.BallotKind.TheVariants.{Prepare, Promise, Accept, Accepted}
use Rattle.model.specs.declared.BallotMessage.{BallotMessage}
use Rattle.model.specs.declared.Telegram.{Telegram}
use Rattle.model.specs.declared.Telegram.TheVariants.{Plain, OfBallot}
use Rattle.protocol.specs.declared.Identity.{Identity}
use Rattle.protocol.specs.declared.Sends.{Sends}
use Rattle.protocol.specs.declared.Sent.{Sent}
use Rattle.protocol.specs.Ballots.{owner}
use Rattle.protocol.specs.Sequence.{messages_of}
use Rattle.protocol.specs.BallotCalls.{ballot_to, ballot_to_others, is_owner}
use Rattle.cabinet_state.specs.declared.BallotState.{BallotState}
use Rattle.cabinet_state.specs.declared.Cabinet.{Cabinet}

-- what was sent of kinds 1 to 4, as one answer would send it
unfoldable pub sends_of : Sent → Sends
sends_of s = record { vote = Some s.vote; ack = Some s.ack; help = Some s.help; helped = Some s.helped }

-- its last promise and its last acceptance, to the ballots' owners
unfoldable pub promise_message : Identity → BallotState → BallotMessage
promise_message me x = ballot_to me Promise x.acceptor.promised x.report.last x.report.word (owner me.n x.acceptor.promised)

unfoldable pub promise_sent : Identity → BallotState → List BallotMessage
promise_sent me x = cond (not x.report.given || is_owner me x.acceptor.promised) [] (promise_message me x ∷ [])

unfoldable pub acceptance_message : Identity → BallotState → BallotMessage
acceptance_message me x = ballot_to me Accepted x.acceptor.last 0 x.acceptor.word (owner me.n x.acceptor.last)

unfoldable pub acceptance_sent : Identity → BallotState → List BallotMessage
acceptance_sent me x = cond (eqb x.acceptor.last 0 || is_owner me x.acceptor.last) [] (acceptance_message me x ∷ [])

-- the asks of its own ballot, and the puts
unfoldable pub asks_sent : Identity → BallotState → List BallotMessage
asks_sent me x = cond (eqb x.opened 0) [] (ballot_to_others me Prepare x.opened None)

unfoldable pub puts_sent : Identity → BallotState → List BallotMessage
puts_sent me x = cond (is_none x.tally.word) [] (ballot_to_others me Accept x.opened x.tally.word)

unfoldable pub ballots_sent : Identity → BallotState → List BallotMessage
ballots_sent me x = promise_sent me x ++ (acceptance_sent me x ++ (asks_sent me x ++ puts_sent me x))

unfoldable pub telegrams_sent : Cabinet → List Telegram
telegrams_sent s = map Plain (messages_of s.me (sends_of s.sent)) ++ map OfBallot (ballots_sent s.me s.ballots)
