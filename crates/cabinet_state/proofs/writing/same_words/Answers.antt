-- The first k words are those of the encoding. A word that differs ends the loop with no, and all that are alike make it yes.
use Prim.Native.Nat.{ℕ, ◌<◌}
use mathlib.Core.Bool.{true}
use mathlib.Core.Path.{◌≡◌, refl, sym, subst}
use native.Mathlib.Omega.{arith}
use lib.Dec.{eqb}
use borrow.Author.Tests.{eq-eqb, ne_eqb}
use Rattle.cabinet_state.specs.Tables.{all_below}
use Rattle.cabinet_state.specs.Words.{state_words, word, column_in, with_check}
use Rattle.cabinet_state.specs.States.{same_words}
use Rattle.cabinet_state.specs.FillLaws.{all-next, not-all}
use Rattle.cabinet_state.proofs.writing.same_words.Goals as goal

pub loop-k-init : goal.loop-k-init
unfolding all_below
loop-k-init c = refl

pub returns-then-with_check-word : goal.returns-then-with_check-word
unfolding same_words
returns-then-with_check-word c =
    let b : c.loop-k.k < state_words = omega arith in
    sym (not-all state_words _ _ b (simp (← c.with_check.ensures, ← c.word.ensures, ne_eqb _ _ c.if-with_check-word.true)))

pub loop-k-preserved : goal.loop-k-preserved
loop-k-preserved c = all-next _ _ c.loop-k.invariant (simp (← c.with_check.ensures, ← c.word.ensures, eq-eqb _ _ c.if-with_check-word.false))

pub returns : goal.returns
unfolding same_words
returns c =
    let e : c.loop-k.k ≡ state_words = omega arith in
    let x = c.args in
    sym (subst (λ (m : ℕ). all_below m (λ j. eqb (with_check x.check (column_in x.head x.ballots x.sets) j) (word x.s.now j)) ≡ true) e c.loop-k.invariant)
