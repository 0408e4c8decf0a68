use mathlib.Core.Path.{◌∙◌, ap}
use mathlib.Core.List.{[], ◌∷◌}
use Rattle.std.specs.Prelude.{slice_get}
use Rattle.model.specs.declared.BallotMessage.{BallotMessage}
use borrow.Author.Tests.{eq-eqb, ne_eqb}
use Rattle.protocol.specs.BallotCalls.{promise_sent}
use Rattle.controller.specs.BallotParts.{promised}
use Rattle.controller.proofs.ballot_sequence.nth_promised.Goals as goal

pub returns-then-to-me : goal.returns-then-to-me
unfolding promised promise_sent
returns-then-to-me c = simp (c.if-x.true, ← c.owner-to.ensures, eq-eqb _ _ c.if-to-me.true, c.nth_to_others.ensures)

pub returns-then-x : goal.returns-then-x
unfolding promised promise_sent
returns-then-x c =
    c.nth_of_one.ensures ∙ ap (λ (m : BallotMessage). slice_get (m ∷ []) c.args.k) c.ballot_to-m.ensures
    ∙ simp (c.if-x.true, ← c.owner-to.ensures, ne_eqb _ _ c.if-to-me.false)

pub returns : goal.returns
unfolding promised
returns c = simp c.if-x.false
