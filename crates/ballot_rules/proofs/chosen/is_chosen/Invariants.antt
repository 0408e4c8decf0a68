-- The loop over the ballots stops at the first in which the word is chosen; so far it was in none.
use Prim.Native.Nat.{ℕ}
use mathlib.Core.Path.{◌≡◌}
use mathlib.Core.Bool.{Bool, false}
use mathlib.Core.List.{List, []}
use Rattle.ground.specs.Quantify.{any_to}
use Rattle.protocol.specs.declared.BallotRow.{BallotRow}
use Rattle.protocol.specs.Ballots.{chosen_in}
use Rattle.ballot_rules.proofs.chosen.is_chosen.Given as goal

-- the word is chosen in ballot b
abbrev pub chosen : ℕ → List BallotRow → Bool → ℕ → Bool
chosen n rows move b = chosen_in n (record { acceptors = []; rows = rows }) move b

abbrev pub invariant-loop-row : goal.invariant-loop-row
invariant-loop-row l = any_to l.row-index (chosen l.n l.row-items l.to_move) ≡ false
