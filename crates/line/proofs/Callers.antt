-- Laws of one line: who is calling, who is met first going up.
use Prim.Native.Nat.{ℕ, zero, suc, ◌-◌, ◌≤◌, ◌<◌}
use mathlib.Core.Path.{◌≡◌, refl}
use mathlib.Core.Bool.{true, false}
use native.Mathlib.Omega.{arith}
use native.Mathlib.Decide.{dec_le}
use lib.Dec.{leb}
use borrow.Author.Tests.{leb-true}
use Rattle.ground.specs.Tests.{by_cond, and_l, and_r}
use Rattle.ground.specs.Lists.{nth}
use Rattle.line.specs.declared.Line.{Line}
use Rattle.line.specs.Turns.{is_lock, calls, up, first_caller}

-- one who calls is a lock
pub caller-low : (l : Line) (k : ℕ) → calls l k ≡ true → 1 ≤ k
unfolding calls
caller-low l k e = leb-true 1 k (and_l (leb 1 k) (leb k 8) (and_l (is_lock k) (nth false l.calling k) e))

pub caller-high : (l : Line) (k : ℕ) → calls l k ≡ true → k ≤ 8
unfolding calls
caller-high l k e = leb-true k 8 (and_r (leb 1 k) (leb k 8) (and_l (is_lock k) (nth false l.calling k) e))

-- the walk up, step by step
pub met-here : (l : Line) (n k : ℕ) → calls l k ≡ true → first_caller l (suc n) k ≡ k
unfolding first_caller
met-here l n k e = rw e

pub met-later : (l : Line) (n k : ℕ) → calls l k ≡ false → first_caller l (suc n) k ≡ first_caller l n (up k)
unfolding first_caller
met-later l n k e = rw e

-- the same with a count of steps left, as the code goes
pub walk_none : (l : Line) (n k : ℕ) → n ≤ 0 → first_caller l n k ≡ 0
unfolding first_caller
walk_none l zero k h = refl
walk_none l (suc n) k h = absurd (omega arith)

pub walk_here : (l : Line) (n k : ℕ) → 0 < n → calls l k ≡ true → first_caller l n k ≡ k
walk_here l zero k h e = absurd (omega arith)
walk_here l (suc n) k h e = met-here l n k e

pub walk-later : (l : Line) (n k : ℕ) → 0 < n → calls l k ≡ false → first_caller l n k ≡ first_caller l (n - 1) (up k)
walk-later l zero k h e = absurd (omega arith)
walk-later l (suc n) k h e = let q : suc n - 1 ≡ n = omega arith in rw q (met-later l n k e)

-- who is met is calling, or it is 0
pub met-calls : (l : Line) (n k : ℕ) → 1 ≤ first_caller l n k → calls l (first_caller l n k) ≡ true
unfolding first_caller
met-calls l zero k h = absurd (omega arith)
met-calls l (suc n) k h =
    by_cond (λ (r : ℕ). 1 ≤ r → calls l r ≡ true) (calls l k) k (first_caller l n (up k)) (λ e _. e) (λ _. met-calls l n (up k)) h

pub met-high : (l : Line) (n k : ℕ) → first_caller l n k ≤ 8
met-high l n k = elim (dec_le 1 (first_caller l n k)) [
  | yes q ↦ caller-high l (first_caller l n k) (met-calls l n k q)
  | no q ↦ omega arith
]
