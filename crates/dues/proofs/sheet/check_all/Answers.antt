-- `dues::sheet::check_all` meets its contract. The invariant: after k lockages, each flag says whether all of them pass its question.
use Prim.Native.Nat.{ℕ, ◌+◌, ◌*◌, ◌/◌}
use mathlib.Core.Bool.{Bool, ◌&&◌}
use mathlib.Core.List.{List}
use mathlib.Core.Path.{◌≡◌, refl, sym, ◌∙◌}
use native.Mathlib.Omega.{arith}
use lib.ListN.{length}
use Rattle.dues.specs.declared.Lockage.{Lockage}
use Rattle.dues.specs.Sheet.{lockage_at, lockages_to, every, listed, in_range}
use Rattle.dues.specs.SheetLaws.{every-next}
use Rattle.dues.proofs.sheet.check_all.Goals as goal

-- a flag after one lockage more
one_more : (p : Lockage → Bool) (s : List ℕ) (k : ℕ) {all passes next : Bool} {l : Lockage} → l ≡ lockage_at s (k * 4) → all ≡ every p (lockages_to s k)
    → passes ≡ p l → next ≡ (all && passes) → next ≡ every p (lockages_to s (k + 1))
one_more p s k at inv e n = n ∙ rw (inv, e, at) (sym (every-next p s k))

pub loop-k-init : goal.loop-k-init
unfolding every lockages_to
loop-k-init c = (refl, refl)

pub loop-k-preserved : goal.loop-k-preserved
loop-k-preserved c =
    let s = c.args.s.now in
    let k = c.loop-k.k in (
      one_more listed s k c.lockage_at-l.ensures c.loop-k.invariant.0 c.listed-listed_all.ensures refl,
      one_more in_range s k c.lockage_at-l.ensures c.loop-k.invariant.1 c.in_range-in_range_all.ensures refl,
    )

pub returns : goal.returns
returns c =
    let s = c.args.s.now in
    let e : c.loop-k.k ≡ length s / 4 = omega arith in
    record { listed_value = c.loop-k.invariant.0 ∙ rw e; in_range_value = c.loop-k.invariant.1 ∙ rw e }
