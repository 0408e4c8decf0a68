-- The loop over 1 to n stops at the first number up to which the set has more than k members; so far it has not had so many.
use Prim.Native.Nat.{◌≤◌}
use Rattle.ground.specs.Quantify.{count_to}
use Rattle.ground.specs.Mask.{has}
use Rattle.controller.proofs.sequence.nth_member.Given as goal

abbrev pub invariant-loop-at : goal.invariant-loop-at
invariant-loop-at l = count_to l.at (has l.set) ≤ l.k
