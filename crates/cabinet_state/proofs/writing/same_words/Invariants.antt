-- The first k words are those of the encoding. A word that differs ends the loop with no, and all that are alike make it yes.
use mathlib.Core.Bool.{true}
use mathlib.Core.Path.{◌≡◌}
use lib.Dec.{eqb}
use Rattle.cabinet_state.specs.Tables.{all_below}
use Rattle.cabinet_state.specs.Words.{word, column_in, with_check}
use Rattle.cabinet_state.proofs.writing.same_words.Given as goal

abbrev pub invariant-loop-k : goal.invariant-loop-k
invariant-loop-k l = (all_below l.k (λ j. eqb (with_check l.check (column_in l.head l.ballots l.sets) j) (word l.s j)) ≡ true)
