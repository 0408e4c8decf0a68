-- The test of a vote set finds "one held": that some vote set held contradicts it.
use Prim.Native.Nat.{ℕ}
use mathlib.Core.Path.{◌≡◌}
use mathlib.Core.Bool.{true, ◌&&◌, ◌||◌}
use mathlib.Core.Logic.{inl, inr}
use Rattle.ground.specs.Tests.{and_l, and_r, and_i, or-e, or_l, or_r}
use Rattle.ground.specs.Quantify.{any_of, any_at, Found}
use Rattle.votes.specs.Joining.{contradicts}
use Rattle.votes.specs.declared.VoteSet.{VoteSet}
use Rattle.protocol.specs.declared.Controller.{Controller}
use Rattle.protocol.specs.Controllers.{has_ack, ack_of}
use Rattle.protocol.specs.Calls.{contradicts_held}
use Rattle.protocol.specs.Strays.{OneHeld, own, answers, ack}

pub found-held : (n : ℕ) (c : Controller) (s : VoteSet) → OneHeld n c s → contradicts_held n c s ≡ true
unfolding contradicts_held
found-held n c s (own p) = or_l (contradicts c.votes s || contradicts c.helped.votes s) _ (or_l (contradicts c.votes s) _ p)
found-held n c s (answers p) = or_l (contradicts c.votes s || contradicts c.helped.votes s) _ (or_r (contradicts c.votes s) _ p)
found-held n c s (ack j a b h p) = or_r (contradicts c.votes s || contradicts c.helped.votes s) _ (any_of n (λ j. has_ack c j && contradicts (ack_of c j) s) j a b (and_i (has_ack c j) _ h p))

pub held_found : (n : ℕ) (c : Controller) (s : VoteSet) → contradicts_held n c s ≡ true → OneHeld n c s
unfolding contradicts_held
held_found n c s e = elim (or-e (contradicts c.votes s || contradicts c.helped.votes s) _ e) [
  | inl h ↦ elim (or-e (contradicts c.votes s) (contradicts c.helped.votes s) h) [ inl p ↦ own p | inr p ↦ answers p ]
  | inr h ↦ let r : Found n (λ j. has_ack c j && contradicts (ack_of c j) s) = any_at n (λ j. has_ack c j && contradicts (ack_of c j) s) h in
      ack r.at r.low r.high (and_l (has_ack c r.at) _ r.holds) (and_r (has_ack c r.at) _ r.holds)
]
