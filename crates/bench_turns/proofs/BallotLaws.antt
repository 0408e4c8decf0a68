-- What the answer to an event of ballots leaves, put back, is what the definitions make of the event.
use Prim.Native.Nat.{ℕ, zero, suc, ◌-◌, ◌≤◌}
use mathlib.Core.Path.{◌≡◌, refl, ap, ◌∙◌}
use mathlib.Core.List.{List, [], ◌∷◌}
use native.Mathlib.Omega.{arith}
use lib.ListN.{get_or, set}
use borrow.Author.Tests.{ne_eqb}
use Rattle.ground.specs.Lists.{nth, put, nth-at}
use Rattle.model.specs.declared.Outcome.{Outcome}
use Rattle.model.specs.declared.Outcome.TheVariants.{None}
use Rattle.model.specs.declared.BallotKind.TheVariants.{Prepare, Promise, Accept, Accepted}
use Rattle.model.specs.declared.BallotEvent.{BallotEvent}
use Rattle.model.specs.declared.BallotEvent.TheVariants.{Open, Carry}
use Rattle.protocol.specs.declared.BallotRow.{BallotRow}
use Rattle.protocol.specs.declared.Ballots.{Ballots}
use Rattle.protocol.specs.Ballots.{new_acceptor, new_row, acceptor, row, report}
use Rattle.protocol.specs.BallotRules.{unanswered}
use Rattle.protocol.specs.BallotSteps.{ballot_subject, row_after, answered, reported_word, carried, ballots_after}
use Rattle.bench_state.specs.BallotQuestions.{ballot_number}
use Rattle.bench_turns.specs.BallotTurns.{reported_ballot, word_in, carried_answer, ballot_answer}

-- an element put where it was read
pub same_set : {A : Type 0} (l : List A) (i : ℕ) (d : A) → set l i (get_or l i d) ≡ l
same_set [] i d = refl
same_set (x ∷ l) zero d = refl
same_set (x ∷ l) (suc i) d = ap (λ (t : List _). x ∷ t) (same_set l i d)

same-put : {A : Type 0} (d : A) (l : List A) (i : ℕ) → 1 ≤ i → put l i (nth d l i) ≡ l
unfolding put
same-put d l i h = ap (set l (i - 1)) (nth-at d l i h) ∙ same_set l (i - 1) d

unchanged : (s : Ballots) (i b : ℕ) → 1 ≤ i → 1 ≤ b → answered s i b (unanswered (acceptor s i) (row s b).tally) ≡ s
unfolding answered row_after unanswered acceptor row
unchanged s i b h k = λ p. record { acceptors = same-put new_acceptor s.acceptors i h p; rows = same-put (new_row []) s.rows b k p }

-- the word that the sender's promise reports, from its row
abbrev pub reported_of : Ballots → BallotEvent → Outcome
reported_of s (Open i b) = None
reported_of s (Carry i j kind b) = reported_word s b i

word_at : (s : Ballots) (last : ℕ) (r : BallotRow) → (1 ≤ last → r.tally.word ≡ (row s last).tally.word) → word_in last r ≡ (row s last).tally.word
unfolding row nth new_row
word_at s zero r h = refl
word_at s (suc k) r h = rw (ne_eqb (suc k) 0 (λ e. omega arith)) (h (omega arith))

pub word_read : (s : Ballots) (e : BallotEvent) (r : BallotRow)
    → (1 ≤ reported_ballot e (row s (ballot_number e)) → r.tally.word ≡ (row s (reported_ballot e (row s (ballot_number e)))).tally.word)
    → word_in (reported_ballot e (row s (ballot_number e))) r ≡ reported_of s e
word_read s (Open i b) r h = refl
word_read s (Carry i j kind b) r h = word_at s (report (row s b) i) r h

pub ballots-answered : (n : ℕ) (s : Ballots) (own : Outcome) (e : BallotEvent) → 1 ≤ ballot_subject e → 1 ≤ ballot_number e
    → answered s (ballot_subject e) (ballot_number e) (ballot_answer n (ballot_number e) e own (acceptor s (ballot_subject e)) (row s (ballot_number e)) (reported_of s e)) ≡ ballots_after n s own e
unfolding ballots_after carried ballot_answer carried_answer
ballots-answered n s own (Open i b) h k = refl
ballots-answered n s own (Carry i j Prepare b) h k = refl
ballots-answered n s own (Carry i j Promise b) h k = refl
ballots-answered n s own (Carry i j Accept b) h k = refl
ballots-answered n s own (Carry i j Accepted b) h k = unchanged s j b h k
