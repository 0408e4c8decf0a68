-- `trace_text::ballots::put_ballot_sent` meets its contract.
use Rattle.text.proofs.Wrote.{wrote-text}
use native.Mathlib.Omega.{arith}
use mathlib.Core.Path.{sym, ◌∙◌, ap}
use Rattle.protocol.specs.Ballots.{new_row}
use Rattle.trace.specs.Lines.{text}
use Rattle.trace_text.proofs.News.{ballot-low, ballot-high, in-ballot, no-ballot}
use Rattle.trace_text.proofs.ballots.put_ballot_sent.Goals as goal

pub returns-then-not-is_ballot : goal.returns-then-not-is_ballot
unfolding text
returns-then-not-is_ballot c = wrote-text c.bytes.ensures (ap text (no-ballot _ _ _ _ _ c.ballot_of-b.ensures (sym c.is_ballot.ensures ∙ c.if-not-is_ballot.true)))

pub overflow_sub-k : goal.overflow_sub-k
overflow_sub-k c = ballot-low _ (sym c.is_ballot.ensures ∙ c.if-not-is_ballot.false)

pub bounds-old-k : goal.bounds-old-k
bounds-old-k c = omega (arith, ballot-low _ (sym c.is_ballot.ensures ∙ c.if-not-is_ballot.false), ballot-high _ (sym c.is_ballot.ensures ∙ c.if-not-is_ballot.false))

pub bounds-new-k : goal.bounds-new-k
bounds-new-k c = omega (arith, ballot-low _ (sym c.is_ballot.ensures ∙ c.if-not-is_ballot.false), ballot-high _ (sym c.is_ballot.ensures ∙ c.if-not-is_ballot.false))

pub overflow_cast-b : goal.overflow_cast-b
overflow_cast-b c = omega (arith, ballot-low _ (sym c.is_ballot.ensures ∙ c.if-not-is_ballot.false), ballot-high _ (sym c.is_ballot.ensures ∙ c.if-not-is_ballot.false))

pub returns : goal.returns
unfolding new_row
returns c =
    wrote-text c.put_in_ballot.ensures (ap text (in-ballot _ _ _ _ _ c.ballot_of-b.ensures (sym c.is_ballot.ensures ∙ c.if-not-is_ballot.false)))
