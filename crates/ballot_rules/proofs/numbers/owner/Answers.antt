use Prim.Native.Nat.{ℕ, zero, suc, ◌+◌, ◌-◌, ◌%◌, ◌<◌}
use mathlib.Core.Path.{◌≡◌, sym, ◌∙◌, ap}
use native.Mathlib.Omega.{arith}
use native.Mathlib.Nat.{mod-lt, mod-zero}
use native.Mathlib.Numerals.{add-one}
use Rattle.protocol.specs.Ballots.{owner}
use Rattle.ballot_rules.proofs.numbers.owner.Goals as goal

-- of no controllers, and of some
none : (n b k : ℕ) → k ≡ b - 1 → n < 1 → k + 1 ≡ owner n b
unfolding owner
none zero b k e h = add-one k ∙ ap suc (e ∙ sym (mod-zero (b - 1)))
none (suc n) b k e h = absurd (omega arith)

some : (n b k : ℕ) → k ≡ b - 1 → k % n + 1 ≡ owner n b
unfolding owner
some n b k e = add-one (k % n) ∙ ap (λ (x : ℕ). suc (x % n)) e

pub returns-then-n-lt1 : goal.returns-then-n-lt1
returns-then-n-lt1 c = none _ _ _ c.saturating_sub-before.ensures c.if-n-lt1.true

pub overflow_add-result-2 : goal.overflow_add-result-2
overflow_add-result-2 c = let m = mod-lt c.saturating_sub-before.result c.if-n-lt1.false in omega arith

pub returns : goal.returns
returns c = some _ _ _ c.saturating_sub-before.ensures
