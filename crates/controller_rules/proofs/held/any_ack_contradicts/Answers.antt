-- The loop over 1 to n stops at the first acknowledgement that is held and contradicts; so far none did.
use Prim.Native.Nat.{ℕ, suc}
use mathlib.Core.Path.{◌≡◌, refl, sym, ◌∙◌, ap}
use native.Mathlib.Omega.{arith}
use native.Mathlib.Numerals.{add-one}
use Rattle.ground.specs.Tests.{or_no}
use Rattle.ground.specs.Quantify.{any_to, any_of}
use Rattle.controller_rules.proofs.held.any_ack_contradicts.Invariants.{against}
use Rattle.controller_rules.proofs.held.any_ack_contradicts.Goals as goal

pub loop-j-init : goal.loop-j-init
unfolding any_to
loop-j-init c = refl

pub returns-then-ack_contradicts : goal.returns-then-ack_contradicts
returns-then-ack_contradicts c =
    let start = c.args in
    let j = c.loop-j.j in
    let yes = sym c.ack_contradicts.ensures ∙ c.if-ack_contradicts.true in
    sym (any_of start.n (against start.a start.s) (suc j) (omega arith) (omega arith) (rw add-one at yes))

pub loop-j-preserved : goal.loop-j-preserved
unfolding any_to
loop-j-preserved c =
    let no = sym c.ack_contradicts.ensures ∙ c.if-ack_contradicts.false in
    rw add-one (or_no _ _ (rw add-one at no) c.loop-j.invariant)

pub returns : goal.returns
returns c =
    let start = c.args in
    let all : c.loop-j.j ≡ start.n = omega arith in
    sym c.loop-j.invariant ∙ ap (λ (m : ℕ). any_to m (against start.a start.s)) all
