-- `survey::ended::all_ended` meets its contract. The invariant: of the first i controllers each has ended so.
use Rattle.std.specs.Prelude.{ℕ, ◌+◌, ◌≤◌, ◌≡◌, Bool, true, false, refl}
use Rattle.std.proofs.Common.{sym, ◌∙◌, ap, arith, add-one}
use Rattle.std.proofs.Math.Logic.{inl, inr}
use Rattle.ground.specs.Tests.{split, no_both}
use Rattle.ground.specs.Lists.{nth}
use Rattle.ground.specs.Quantify.{all_to, all-at}
use Rattle.survey.specs.Ended.{ended_if, row_of, all_ended}
use Rattle.survey.proofs.ended.all_ended.Goals as goal

-- one that fails
not-all : (m : ℕ) (p : ℕ → Bool) (k : ℕ) → 1 ≤ k → k ≤ m → p k ≡ false → all_to m p ≡ false
not-all m p k a b e = elim (split (all_to m p)) [
  | inl t ↦ absurd (no_both (p k) (all-at m p t k a b) e)
  | inr t ↦ t
]

pub loop-i-init : goal.loop-i-init
unfolding all_to
loop-i-init c = refl

pub returns-then-not-ended_if : goal.returns-then-not-ended_if
unfolding all_ended nth
returns-then-not-ended_if c =
    let here : ended_if c.args.moving c.row_at.result ≡ false = sym c.ended_if.ensures ∙ c.if-not-ended_if.true in
    sym (not-all c.args.end.n (λ k. ended_if c.args.moving (row_of c.args.end k)) (c.loop-i.i + 1) (omega arith) (omega arith) (rw add-one (rw c.row_at.ensures at here)))

pub loop-i-preserved : goal.loop-i-preserved
unfolding all_to nth
loop-i-preserved c =
    let here : ended_if c.args.moving c.row_at.result ≡ true = sym c.ended_if.ensures ∙ c.if-not-ended_if.false in
    rw (add-one, rw c.row_at.ensures at here) c.loop-i.invariant

pub returns : goal.returns
unfolding all_ended
returns c = let e : c.loop-i.i ≡ c.args.end.n = omega arith in sym (rw e at c.loop-i.invariant)
