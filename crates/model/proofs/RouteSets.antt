-- The routes as sets: by who sends, a route leads to all others of one set or to nobody.
use Prim.Native.Nat.{ℕ, suc, ◌≤◌}
use mathlib.Core.Path.{◌≡◌, sym, ◌∙◌}
use mathlib.Core.Bool.{Bool, true, false, not, ◌&&◌, ◌||◌, cond, or-false, and-false}
use native.Mathlib.Omega.{arith}
use native.Mathlib.Decide.{dec_le, ℕ_discrete}
use lib.Dec.{eqb, leb, ltb}
use lib.Bits.{bit_xor}
use borrow.Author.Tests.{le-leb, lt-leb, lt-ltb, le-ltb, eq-eqb, ne_eqb}
use Rattle.ground.specs.Mask.{collect, up_to}
use Rattle.ground.proofs.MaskLaws.{has_xor}
use Rattle.ground.proofs.UpTo.{collect-same, collect_nobody, has-up-to, up-to_wide}
use Rattle.model.specs.Ranges.{is_backup, is_second_backup}
use Rattle.model.specs.Routes.{vote_route, ack_route, help_route, others_of}

-- 1 to f + 1 are 1 to f, and f + 1
le_next : (k f : ℕ) → leb k (suc f) ≡ (leb k f || eqb k (suc f))
le_next k f = elim (dec_le k f) [
  | yes h ↦ rw (le-leb k f h, le-leb k (suc f) (omega arith))
  | no h ↦ elim (ℕ_discrete k (suc f)) [
    | yes q ↦ rw (le-leb k (suc f) (omega arith), lt-leb k f (omega arith), eq-eqb k (suc f) q)
    | no q ↦ rw (lt-leb k (suc f) (omega (arith, q)), lt-leb k f (omega arith), ne_eqb k (suc f) q)
  ]
]

-- above f is who is not of 1 to f
above : (k f : ℕ) → not (leb k f) ≡ ltb f k
above k f = elim (dec_le k f) [
  | yes h ↦ rw (le-leb k f h, le-ltb f k h)
  | no h ↦ rw (lt-leb k f (omega arith), lt-ltb f k (omega arith))
]

-- votes: a backup's go to 1 to f + 1, another's to 1 to f
pub backup-votes : (n f from : ℕ) → is_backup f from ≡ true → collect n (others_of (up_to (suc f)) from) ≡ collect n (vote_route f from)
unfolding others_of vote_route
backup-votes n f from e = collect-same n (others_of (up_to (suc f)) from) (vote_route f from) (λ k a w l. rw (e, has-up-to (suc f) k a w, le_next k f))

pub other-votes : (n f from : ℕ) → is_backup f from ≡ false → collect n (others_of (up_to f) from) ≡ collect n (vote_route f from)
unfolding others_of vote_route
other-votes n f from e = collect-same n (others_of (up_to f) from) (vote_route f from) (λ k a w l. rw (e, has-up-to f k a w, or-false (leb k f)))

-- acknowledgements: a backup's go to all, the second backup's to 1 to f, no other sends one
pub backup-acks : (n f from : ℕ) → is_backup f from ≡ true → collect n (others_of (up_to n) from) ≡ collect n (ack_route f from)
unfolding others_of ack_route
backup-acks n f from e = collect-same n (others_of (up_to n) from) (ack_route f from) (λ k a w l. rw (e, has-up-to n k a w, le-leb k n l))

pub second-acks : (n f from : ℕ) → is_backup f from ≡ false → is_second_backup f from ≡ true
    → collect n (others_of (up_to f) from) ≡ collect n (ack_route f from)
unfolding others_of ack_route
second-acks n f from e s = collect-same n (others_of (up_to f) from) (ack_route f from) (λ k a w l. rw (e, s, has-up-to f k a w))

pub no-acks : (n f from : ℕ) → is_backup f from ≡ false → is_second_backup f from ≡ false → 0 ≡ collect n (ack_route f from)
unfolding ack_route
no-acks n f from e s = sym (collect_nobody n (ack_route f from) (λ k. rw (e, s) (and-false (not (eqb from k)))))

-- help calls and answers: from one above f to those above f; where the sets of 1..n and 1..f differ within 1..n
pub helps : (n f from : ℕ) → ltb f from ≡ true → collect n (others_of (bit_xor (up_to n) (up_to f)) from) ≡ collect n (help_route f from)
unfolding others_of help_route
helps n f from e = collect-same n (others_of (bit_xor (up_to n) (up_to f)) from) (help_route f from) (λ k a w l.
    rw (e, has_xor (up_to n) (up_to f) k, has-up-to n k a w, has-up-to f k a w, le-leb k n l) (both (eqb from k) (leb k f) (ltb f k) (above k f)))
  where
    both : (x y z : Bool) → not y ≡ z → (not x && cond y false true) ≡ (not x && z)
    both x true z q = rw (← q)
    both x false z q = rw (← q)

pub no-helps : (n f from : ℕ) → ltb f from ≡ false → 0 ≡ collect n (help_route f from)
unfolding help_route
no-helps n f from e = sym (collect_nobody n (help_route f from) (λ k. rw e (and-false (not (eqb from k)))))

-- 1 to f + 1 where that number has no bit
pub past_bits : (f : ℕ) → 255 ≤ f → up_to f ≡ up_to (suc f)
past_bits f h = up-to_wide f (omega arith) ∙ sym (up-to_wide (suc f) (omega arith))
