-- The loop over 1 to f stops at the first acknowledgement that is not held and full; so far all were. No acknowledgement of a number above the limit is held.
use Prim.Native.Nat.{ℕ}
use mathlib.Core.Path.{◌≡◌}
use mathlib.Core.Bool.{Bool, true, ◌&&◌}
use mathlib.Core.List.{List}
use Rattle.ground.specs.Mask.{has}
use Rattle.ground.specs.Lists.{nth}
use Rattle.ground.specs.Quantify.{all_to}
use Rattle.votes.specs.VoteSets.{empty, complete}
use Rattle.votes.specs.declared.VoteSet.{VoteSet}
use Rattle.controller_rules.proofs.deciding.backups_complete.Given as goal

-- the acknowledgement of j is held, and full
abbrev pub held : ℕ → ℕ → List VoteSet → ℕ → Bool
held n from sets j = has from j && complete n (nth empty sets j)

abbrev pub invariant-loop-j : goal.invariant-loop-j
invariant-loop-j l = all_to l.j (held l.n l.from l.sets) ≡ true
