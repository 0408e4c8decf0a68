-- How many locks a lock has before it, going up: the measure that falls with every turn that serves another.
use Prim.Native.Nat.{ℕ, zero, suc, ◌+◌, ◌-◌, ◌≤◌, ◌<◌}
use mathlib.Core.Path.{◌≡◌}
use mathlib.Core.Bool.{true, false, cond}
use native.Mathlib.Omega.{arith}
use native.Mathlib.Decide.{dec_le, ℕ_discrete}
use lib.Dec.{leb}
use borrow.Author.Tests.{lt-ltb, le-ltb, lt-leb, le-leb}
use mathlib.Core.Logic.{inl, inr}
use Rattle.ground.specs.Tests.{split, no_both}
use Rattle.line.specs.declared.Line.{Line}
use Rattle.line.specs.Turns.{calls, up, first_caller}
use Rattle.line.specs.Claim.{passed}
use Rattle.line.proofs.Callers.{caller-low, caller-high, met-calls, met-here, met-later}

-- the locks met from k on before j
unfoldable pub ahead : ℕ → ℕ → ℕ
ahead k j = cond (leb k j) (j - k) (8 + j - k)

ahead_le : (k j : ℕ) → k ≤ j → ahead k j ≡ j - k
unfolding ahead
ahead_le k j h = rw (le-leb k j h)

ahead_gt : (k j : ℕ) → j < k → ahead k j ≡ 8 + j - k
unfolding ahead
ahead_gt k j h = rw (lt-leb k j h)

up-below : (k : ℕ) → k < 8 → up k ≡ k + 1
unfolding up
up-below k h = rw (lt-ltb k 8 h)

up_top : (k : ℕ) → 8 ≤ k → up k ≡ 1
unfolding up
up_top k h = rw (le-ltb k 8 h)

-- the next lock is one of 1 to 8, whatever the number
pub up-low : (k : ℕ) → 1 ≤ up k
up-low k = elim (dec_le 8 k) [
  | yes h ↦ omega (arith, up_top k h)
  | no h ↦ omega (arith, up-below k (omega arith))
]

pub up-high : (k : ℕ) → up k ≤ 8
up-high k = elim (dec_le 8 k) [
  | yes h ↦ omega (arith, up_top k h)
  | no h ↦ omega (arith, up-below k (omega arith))
]

-- those that the claim speaks of
pub passed-ahead : (last j : ℕ) → last ≤ 8 → 1 ≤ j → j ≤ 8 → passed last j ≡ ahead (up last) j
unfolding passed
passed-ahead last j h a b = elim (dec_le 8 last) [
  | yes t ↦ rw (le-ltb last j (omega arith)) (omega (arith, up_top last t, ahead_le (up last) j (omega (arith, up_top last t))))
  | no t ↦ (elim (dec_le j last) [
    | yes q ↦ rw (le-ltb last j q) (omega (arith, up-below last (omega arith), ahead_gt (up last) j (omega (arith, up-below last (omega arith)))))
    | no q ↦ rw (lt-ltb last j (omega arith)) (omega (arith, up-below last (omega arith), ahead_le (up last) j (omega (arith, up-below last (omega arith)))))
  ])
]

module _ (k j : ℕ) (a : 1 ≤ k) (b : k ≤ 8) (c : 1 ≤ j) (d : j ≤ 8) where
  pub ahead_small : ahead k j < 8
  ahead_small = elim (dec_le k j) [
    | yes h ↦ omega (arith, ahead_le k j h)
    | no h ↦ omega (arith, ahead_gt k j (omega arith))
  ]

  -- one step further
  ahead-up : (k ≡ j → ⊥) → ahead k j ≡ suc (ahead (up k) j)
  ahead-up n = elim (dec_le 8 k) [
    | yes t ↦ omega (arith, ahead_gt k j (omega (arith, low t)), up_top k t, ahead_le (up k) j (omega (arith, up_top k t)))
    | no t ↦ (elim (dec_le k j) [
      | yes h ↦ omega (arith, ahead_le k j h, up-below k (omega arith), ahead_le (up k) j (omega (arith, above h, up-below k (omega arith))))
      | no h ↦ omega (arith, ahead_gt k j (omega arith), up-below k (omega arith), ahead_gt (up k) j (omega (arith, up-below k (omega arith))))
    ])
  ]
    where
      low : 8 ≤ k → j < k
      low t = elim (ℕ_discrete k j) [
        | yes e ↦ absurd (n e)
        | no e ↦ omega arith
      ]

      above : k ≤ j → k < j
      above h = elim (ℕ_discrete k j) [
        | yes e ↦ absurd (n e)
        | no e ↦ omega arith
      ]

-- from a lock that is met no later, no more are left
nearer : (k r j : ℕ) → 1 ≤ k → k ≤ 8 → 1 ≤ r → r ≤ 8 → 1 ≤ j → j ≤ 8 → ahead k r ≤ ahead k j → ahead r j ≤ ahead k j
nearer k r j a b p q c d h = elim (dec_le k r) [
  | yes x ↦ (elim (dec_le k j) [
    | yes y ↦ let z : r ≤ j = omega (arith, ahead_le k r x, ahead_le k j y) in omega (arith, ahead_le k j y, ahead_le r j z)
    | no y ↦ omega (arith, ahead_gt k j (omega arith), ahead_gt r j (omega arith))
  ])
  | no x ↦ (elim (dec_le k j) [
    | yes y ↦ absurd (omega (arith, ahead_gt k r (omega arith), ahead_le k j y))
    | no y ↦ let z : r ≤ j = omega (arith, ahead_gt k r (omega arith), ahead_gt k j (omega arith)) in omega (arith, ahead_gt k j (omega arith), ahead_le r j z)
  ])
]

-- beyond such a lock, fewer
pub beyond : (k r j : ℕ) → 1 ≤ k → k ≤ 8 → 1 ≤ r → r ≤ 8 → 1 ≤ j → j ≤ 8 → (r ≡ j → ⊥) → ahead k r ≤ ahead k j → ahead (up r) j < ahead k j
beyond k r j a b p q c d n h = omega (arith, ahead-up r j p q c d n, nearer k r j a b p q c d h)

-- who is met first is met no later than any caller
pub record Met (l : Line) (k j r : ℕ) : Type 0 where
  pub some : 1 ≤ r
  pub near : ahead k r ≤ ahead k j

ahead_self : (k : ℕ) → ahead k k ≡ 0
ahead_self k = omega (arith, ahead_le k k (omega arith))

-- one step further, where lock k is not calling
met-step : (l : Line) (j : ℕ) → calls l j ≡ true → (n k : ℕ) → 1 ≤ k → k ≤ 8 → calls l k ≡ false
    → (ahead (up k) j < ahead k j → Met l (up k) j (first_caller l n (up k))) → Met l k j (first_caller l n (up k))
met-step l j e n k a b t ih =
    let one : ahead k j ≡ suc (ahead (up k) j) = ahead-up k j a b (caller-low l j e) (caller-high l j e) (apart j e) in
    let m : Met l (up k) j (first_caller l n (up k)) = ih (omega arith) in
    let r : calls l (first_caller l n (up k)) ≡ true = met-calls l n (up k) m.some in
    let two : ahead k (first_caller l n (up k)) ≡ suc (ahead (up k) (first_caller l n (up k))) = ahead-up k _ a b m.some (caller-high l _ r) (apart _ r) in
    record { some = m.some; near = omega arith }
  where
    apart : (i : ℕ) → calls l i ≡ true → k ≡ i → ⊥
    apart i q z = no_both (calls l i) q (rw z at t)

pub first-met : (l : Line) (j : ℕ) → calls l j ≡ true → (n k : ℕ) → 1 ≤ k → k ≤ 8 → ahead k j < n → Met l k j (first_caller l n k)
first-met l j e zero k a b h = absurd (omega arith)
first-met l j e (suc n) k a b h = elim (split (calls l k)) [
  | inl t ↦ rw (met-here l n k t) (record { some = a; near = omega (arith, ahead_self k) })
  | inr t ↦ rw (met-later l n k t) (met-step l j e n k a b t (λ q. first-met l j e n (up k) (up-low k) (up-high k) (omega arith)))
]
