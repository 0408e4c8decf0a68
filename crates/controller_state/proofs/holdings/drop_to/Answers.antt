-- `drop_to` meets its contract. The invariant: after j senders those of 1..j that contradict the vote set are dropped.
use Prim.Native.Nat.{ℕ}
use mathlib.Core.Path.{◌≡◌, refl, ◌∙◌, ap}
use native.Mathlib.Omega.{arith}
use native.Mathlib.Numerals.{add-one}
use Rattle.protocol.specs.Controllers.{drop_to}
use Rattle.controller_state.proofs.holdings.drop_to.Goals as goal

pub loop-j-init : goal.loop-j-init
unfolding drop_to
loop-j-init c = refl

pub loop-j-preserved : goal.loop-j-preserved
unfolding drop_to
loop-j-preserved c = c.drop_if-acks.ensures ∙ rw (add-one, c.loop-j.invariant)

pub returns : goal.returns
returns c =
    let start = c.args in
    let e : c.loop-j.j ≡ start.m = omega arith in
    c.loop-j.invariant ∙ ap (λ (x : ℕ). drop_to x start.s start.a) e
