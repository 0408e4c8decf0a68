-- `ground::up_to` meets its contract: below 32 the shift loses nothing, and 2 to the n less 1 has all bits below n.
use Prim.Native.Nat.{ℕ, ◌-◌}
use mathlib.Core.Path.{sym, ◌∙◌, ap}
use native.Mathlib.Omega.{arith}
use lib.Pow.{pow_pos}
use Rattle.ground.proofs.UpTo.{up-to_ones, up-to_wide}
use Rattle.ground.proofs.Computed.{shifted}
use Rattle.ground.proofs.mask.up_to.Goals as goal

pub returns-then-n-ge32 : goal.returns-then-n-ge32
returns-then-n-ge32 c = sym (up-to_wide _ c.if-n-ge32.true)

pub overflow_sub-result : goal.overflow_sub-result
overflow_sub-result c = rw (shifted 32 c.args.n (omega arith)) (omega (arith, pow_pos c.args.n))

pub returns : goal.returns
returns c = ap (λ (p : ℕ). p - 1) (shifted 32 c.args.n (omega arith)) ∙ sym (up-to_ones _ (omega arith))
