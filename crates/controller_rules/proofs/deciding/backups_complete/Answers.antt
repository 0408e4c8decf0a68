-- The loop over 1 to f stops at the first acknowledgement that is not held and full; so far all were. No acknowledgement of a number above the limit is held.
use Prim.Native.Nat.{ℕ, suc, ◌<◌, ◌^◌}
use mathlib.Core.Path.{◌≡◌, refl, sym, ◌∙◌, ap}
use native.Mathlib.Omega.{arith}
use native.Mathlib.Numerals.{add-one}
use Rattle.ground.proofs.Inclusion.{has-past}
use Rattle.ground.specs.Limit.{limit}
use Rattle.ground.specs.Lists.{nth}
use Rattle.ground.specs.Quantify.{all_to}
use Rattle.ground.specs.Tests.{and_i}
use Rattle.protocol.specs.Rules.{backups_complete}
use Rattle.controller_rules.proofs.Quantified.{all_no}
use Rattle.controller_rules.proofs.deciding.backups_complete.Invariants.{held}
use Rattle.std.proofs.Common.{rules}
use Rattle.controller_rules.proofs.deciding.backups_complete.Goals as goal

pub returns-then-f-gt-LIMIT : goal.returns-then-f-gt-LIMIT
unfolding backups_complete
returns-then-f-gt-LIMIT c =
    let start = c.args in
    let fits : start.c.acks.from < 2 ^ 32 = search rules in
    let none = has-past 32 start.c.acks.from (suc limit) fits (omega arith) in
    sym (all_no start.f (held start.n start.c.acks.from start.c.acks.sets) (suc limit) (omega arith) (omega arith) (simp none))

pub loop-j-init : goal.loop-j-init
unfolding all_to
loop-j-init c = refl

pub returns-then-not-held_complete : goal.returns-then-not-held_complete
unfolding backups_complete nth
returns-then-not-held_complete c =
    let start = c.args in
    let j = c.loop-j.j in
    let no = sym c.held_complete.ensures ∙ c.if-not-held_complete.true in
    sym (all_no start.f (held start.n start.c.acks.from start.c.acks.sets) (suc j) (omega arith) (omega arith) (rw add-one at no))

pub loop-j-preserved : goal.loop-j-preserved
unfolding all_to nth
loop-j-preserved c =
    let yes = sym c.held_complete.ensures ∙ c.if-not-held_complete.false in
    rw add-one (and_i _ _ (rw add-one at yes) c.loop-j.invariant)

pub returns : goal.returns
unfolding backups_complete
returns c =
    let start = c.args in
    let all : c.loop-j.j ≡ start.f = omega arith in
    sym c.loop-j.invariant ∙ ap (λ (m : ℕ). all_to m (held start.n start.c.acks.from start.c.acks.sets)) all
