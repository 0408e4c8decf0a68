-- `dues::sheet::totals` meets its contract. The invariant: after `done` lockages, `upper` and `lower` are what these come to.
use Prim.Native.Nat.{◌*◌, ◌/◌, ◌≤◌}
use mathlib.Core.Path.{◌≡◌, refl, sym, ap, ◌∙◌}
use native.Mathlib.Omega.{arith}
use lib.ListN.{length}
use Rattle.dues.specs.declared.Lockage.{Lockage}
use Rattle.tariff.specs.Charges.{shared}
use Rattle.dues.specs.Sheet.{charge_of, lockage_at, lockages_to, total, totals}
use Rattle.dues.specs.SheetLaws.{upper_of, lower_of, total-next, upper-most-of, lower-most-of, upper-total-most, lower-total-most}
use Rattle.dues.proofs.sheet.totals.Goals as goal

pub loop-done-init : goal.loop-done-init
unfolding total lockages_to
loop-done-init c = (refl, refl)

pub overflow_add-upper : goal.overflow_add-upper
unfolding shared
overflow_add-upper c =
    let u : c.lockage_shares-shares.result.upper ≤ 1587 = rw c.lockage_shares-shares.ensures (upper-most-of c.lockage_at.result) in
    omega (arith, upper-total-most c.args.s.now c.loop-done.done)

pub overflow_add-lower : goal.overflow_add-lower
unfolding shared
overflow_add-lower c =
    let u : c.lockage_shares-shares.result.lower ≤ 1587 = rw c.lockage_shares-shares.ensures (lower-most-of c.lockage_at.result) in
    omega (arith, lower-total-most c.args.s.now c.loop-done.done)

pub loop-done-preserved : goal.loop-done-preserved
unfolding shared
loop-done-preserved c =
    let s = c.args.s.now in
    let k = c.loop-done.done in
    let e : c.lockage_shares-shares.result ≡ shared (charge_of (lockage_at s (k * 4))) =
    c.lockage_shares-shares.ensures ∙ ap (λ (l : Lockage). shared (charge_of l)) c.lockage_at.ensures in (
      rw (c.loop-done.invariant.0, e) (sym (total-next upper_of s k)),
      rw (c.loop-done.invariant.1, e) (sym (total-next lower_of s k)),
    )

pub returns : goal.returns
unfolding totals
returns c =
    let s = c.args.s.now in
    let e : c.loop-done.done ≡ length s / 4 = omega arith in
    rw (c.loop-done.invariant.0, c.loop-done.invariant.1, e)
