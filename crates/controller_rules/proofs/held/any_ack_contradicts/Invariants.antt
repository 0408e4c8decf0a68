-- The loop over 1 to n stops at the first acknowledgement that is held and contradicts; so far none did.
use Prim.Native.Nat.{ℕ}
use mathlib.Core.Path.{◌≡◌}
use mathlib.Core.Bool.{Bool, false, ◌&&◌}
use Rattle.ground.specs.Mask.{has}
use Rattle.ground.specs.Lists.{nth}
use Rattle.ground.specs.Quantify.{any_to}
use Rattle.votes.specs.VoteSets.{empty}
use Rattle.votes.specs.Joining.{contradicts}
use Rattle.votes.specs.declared.VoteSet.{VoteSet}
use Rattle.protocol.specs.declared.Acks.{Acks}
use Rattle.controller_rules.proofs.held.any_ack_contradicts.Given as goal

-- the acknowledgement of j is held, and contradicts
abbrev pub against : Acks → VoteSet → ℕ → Bool
against a s j = has a.from j && contradicts (nth empty a.sets j) s

abbrev pub invariant-loop-j : goal.invariant-loop-j
invariant-loop-j l = any_to l.j (against l.a l.s) ≡ false
