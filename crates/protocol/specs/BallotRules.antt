-- Document 02, U14, the rules of ballots, one function each. They are rules of one controller: over what it has promised and accepted (an acceptor), and what
-- it has counted for a ballot of its own (a tally). The bench goes by them at its events, a cabinet at its telegrams.
use Rattle.std.specs.Prelude.{ℕ, Bool, true, false, cond, not, ◌&&◌, eqb, leb, ltb}
use Rattle.ground.specs.Mask.{has, insert}
use Rattle.model.specs.Numbers.{is_none}
use Rattle.model.specs.declared.Outcome.{Outcome}
use Rattle.model.specs.declared.Outcome.TheVariants.{None}
use Rattle.protocol.specs.declared.Acceptor.{Acceptor}
use Rattle.protocol.specs.declared.Tally.{Tally}
use Rattle.protocol.specs.declared.Report.{Report}
use Rattle.protocol.specs.declared.BallotAnswer.{BallotAnswer}
use Rattle.protocol.specs.Ballots.{majority}

-- nothing is promised, put or accepted
abbrev pub no_promise : Report
no_promise = record { given = false; last = 0; word = None }

unfoldable pub unanswered : Acceptor → Tally → BallotAnswer
unanswered a t = record { acceptor = a; tally = t; promise = no_promise; proposes = false; accepts = false }

-- **An ask arrives**: "A running controller answers only ballots not below its highest promise, once per ballot and kind: an ask by a promise"
abbrev pub answers_prepare : ℕ → Acceptor → Bool
answers_prepare b a = leb a.highest b && not (eqb a.promised b)

-- "Both raise its highest promise to that ballot." A promise reports the ballot last taken, and its word.
unfoldable pub promising : ℕ → Acceptor → Acceptor
promising b a = record { highest = b; promised = b; last = a.last; word = a.word }

unfoldable pub reporting : Acceptor → Report
reporting a = record { given = true; last = a.last; word = a.word }

unfoldable pub give_promise : ℕ → Acceptor → Tally → BallotAnswer
give_promise b a t = record { acceptor = promising b a; tally = t; promise = reporting a; proposes = false; accepts = false }

unfoldable pub prepare_arrives : ℕ → Acceptor → Tally → BallotAnswer
prepare_arrives b a t = cond (answers_prepare b a) (give_promise b a t) (unanswered a t)

-- **A put arrives**: ".. a put by taking it and a taken to the owner."
abbrev pub answers_accept : ℕ → Acceptor → Bool
answers_accept b a = leb a.highest b && not (eqb a.last b)

unfoldable pub accepting : ℕ → Outcome → Acceptor → Acceptor
accepting b w a = record { highest = b; promised = a.promised; last = b; word = w }

unfoldable pub accept : ℕ → Outcome → Acceptor → Tally → BallotAnswer
accept b w a t = record { acceptor = accepting b w a; tally = t; promise = no_promise; proposes = false; accepts = true }

unfoldable pub accept_arrives : ℕ → Outcome → Acceptor → Tally → BallotAnswer
accept_arrives b w a t = cond (answers_accept b a) (accept b w a t) (unanswered a t)

-- **A promise arrives**, from j, which reports `last` and its word: "one per sender and its own counted", until the owner has put a word
abbrev pub counts : Tally → ℕ → Bool
counts t j = is_none t.word && not (has t.from j)

unfoldable pub counting : Tally → ℕ → ℕ → Outcome → Tally
counting t j last w = record { from = insert t.from j; top = cond (ltb t.top last) last t.top; top_word = cond (ltb t.top last) w t.top_word; word = t.word }

-- "the owner puts, once per ballot, the word of the highest ballot reported, else its own"
abbrev pub word_for : Tally → Outcome → Outcome
word_for t own = cond (eqb t.top 0) own t.top_word

unfoldable pub with_word : Tally → Outcome → Tally
with_word t w = record { from = t.from; top = t.top; top_word = t.top_word; word = w }

-- "The put goes to all others; the owner takes its own by the same rule."
unfoldable pub putting : BallotAnswer → BallotAnswer
putting x = record { acceptor = x.acceptor; tally = x.tally; promise = x.promise; proposes = true; accepts = x.accepts }

unfoldable pub put_word : ℕ → Outcome → Acceptor → Tally → BallotAnswer
put_word b w a t = putting (accept_arrives b w a (with_word t w))

-- "With promises from more than n/2 controllers"
unfoldable pub put_if_majority : ℕ → ℕ → Outcome → Acceptor → Tally → BallotAnswer
put_if_majority n b own a t = cond (majority n t.from) (put_word b (word_for t own) a t) (unanswered a t)

unfoldable pub promise_arrives : ℕ → ℕ → ℕ → ℕ → Outcome → Outcome → Acceptor → Tally → BallotAnswer
promise_arrives n b j last w own a t = cond (counts t j) (put_if_majority n b own a (counting t j last w)) (unanswered a t)

-- **Open**, by controller i: "it promises to itself and sends all others an ask". Its own promise is counted as any other.
unfoldable pub giving : Report → BallotAnswer → BallotAnswer
giving r x = record { acceptor = x.acceptor; tally = x.tally; promise = r; proposes = x.proposes; accepts = x.accepts }

unfoldable pub open_ballot : ℕ → ℕ → ℕ → Outcome → Acceptor → Tally → BallotAnswer
open_ballot n b i own a t = giving (reporting a) (promise_arrives n b i a.last a.word own (promising b a) t)
