-- One controller and one ballot: what a rule of ballots looks at, and what its answer leaves of them on the bench.
use Prim.Native.Nat.{ℕ}
use mathlib.Core.Path.{◌≡◌, refl}
use mathlib.Core.Bool.{Bool}
use Rattle.ground.specs.Tests.{by_cond}
use Rattle.model.specs.declared.Outcome.{Outcome}
use Rattle.protocol.specs.declared.Acceptor.{Acceptor}
use Rattle.protocol.specs.declared.Tally.{Tally}
use Rattle.protocol.specs.declared.BallotAnswer.{BallotAnswer}
use Rattle.protocol.specs.declared.BallotRow.{BallotRow}
use Rattle.protocol.specs.Ballots.{majority}
use Rattle.protocol.specs.BallotRules.{no_promise, unanswered, answers_accept, accept, accept_arrives, counts, counting, word_for, with_word, putting, put_word, put_if_majority, promise_arrives}
use Rattle.protocol.specs.BallotSteps.{row_after}

-- a controller, as far as ballots go: does it run, the word it put, what it has promised and accepted
pub record Member : Type 0 where
  pub running : Bool
  pub own : Outcome
  pub acceptor : Acceptor

pub record Part : Type 0 where
  pub member : Member
  pub ballot : BallotRow

abbrev pub with_acceptor : Member → Acceptor → Member
with_acceptor m a = record { running = m.running; own = m.own; acceptor = a }

-- the part after the answer of controller i
abbrev pub applied : ℕ → Part → BallotAnswer → Part
applied i p x = record { member = with_acceptor p.member x.acceptor; ballot = row_after p.ballot i x }

-- with another tally
abbrev pub with_tally : Part → Tally → Part
with_tally p t = record { member = p.member; ballot = record { tally = t; promised_by = p.ballot.promised_by; lasts = p.ballot.lasts; accepted_by = p.ballot.accepted_by } }

-- a promise that arrives is answered by none
module _ (n b : ℕ) (own : Outcome) where
  accept-silent : (w : Outcome) (a : Acceptor) (t : Tally) → (accept_arrives b w a t).promise ≡ no_promise
  unfolding accept_arrives accept unanswered
  accept-silent w a t = by_cond (λ (x : BallotAnswer). x.promise ≡ no_promise) (answers_accept b a) (accept b w a t) (unanswered a t) (λ _. refl) (λ _. refl)

  majority-silent : (a : Acceptor) (t : Tally) → (put_if_majority n b own a t).promise ≡ no_promise
  unfolding put_if_majority put_word putting
  majority-silent a t = by_cond (λ (x : BallotAnswer). x.promise ≡ no_promise) (majority n t.from) (put_word b (word_for t own) a t) (unanswered a t)
      (λ _. accept-silent (word_for t own) a (with_word t (word_for t own))) (λ _. unfold unanswered in refl)

  pub promise-silent : (j l : ℕ) (w : Outcome) (a : Acceptor) (t : Tally) → (promise_arrives n b j l w own a t).promise ≡ no_promise
  unfolding promise_arrives
  promise-silent j l w a t = by_cond (λ (x : BallotAnswer). x.promise ≡ no_promise) (counts t j) (put_if_majority n b own a (counting t j l w)) (unanswered a t)
      (λ _. majority-silent a (counting t j l w)) (λ _. unfold unanswered in refl)
