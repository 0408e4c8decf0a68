-- `controller::open` meets its contract: three tests in the order of `open_call`, by what each test's call ensures.
use mathlib.Core.Path.{◌≡◌, sym, ◌∙◌}
use mathlib.Core.Bool.{Bool, true, false, cond, not, ◌&&◌}
use Rattle.protocol.specs.declared.BallotAnswer.{BallotAnswer}
use Rattle.protocol.specs.BallotCalls.{open_call}
use Rattle.controller.proofs.ballots.open.Goals as goal

-- behind the first two tests, the third goes by the word put
no_word : (p q w : Bool) (x y r : BallotAnswer) → p ≡ true → q ≡ true → w ≡ true → r ≡ y → r ≡ cond (p && q && not w) x y
no_word p q w x y r e f g h = rw (e, f, g) h

with-word : (p q w : Bool) (x y r : BallotAnswer) → p ≡ true → q ≡ true → w ≡ false → r ≡ x → r ≡ cond (p && q && not w) x y
with-word p q w x y r e f g h = rw (e, f, g) h

pub returns-then-not-takes_part : goal.returns-then-not-takes_part
unfolding open_call
returns-then-not-takes_part c = simp (← c.takes_part.ensures, c.if-not-takes_part.true, c.unanswered.ensures)

pub returns-then-not-may_open : goal.returns-then-not-may_open
unfolding open_call
returns-then-not-may_open c = simp (← c.takes_part.ensures, c.if-not-takes_part.false, ← c.may_open.ensures, c.if-not-may_open.true, c.unanswered-then-not-may_open.ensures)

pub returns-then-is_none : goal.returns-then-is_none
unfolding open_call
returns-then-is_none c =
    no_word _ _ _ _ _ _ (sym c.takes_part.ensures ∙ c.if-not-takes_part.false)
    (sym c.may_open.ensures ∙ c.if-not-may_open.false)
    (sym c.is_none.ensures ∙ c.if-is_none.true) c.unanswered-then-is_none.ensures

pub returns : goal.returns
unfolding open_call
returns c =
    with-word _ _ _ _ _ _ (sym c.takes_part.ensures ∙ c.if-not-takes_part.false)
    (sym c.may_open.ensures ∙ c.if-not-may_open.false)
    (sym c.is_none.ensures ∙ c.if-is_none.false) c.open_ballot.ensures
