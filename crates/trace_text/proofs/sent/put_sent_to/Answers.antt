-- `trace_text::sent::put_sent_to` meets its contract.
use Prim.Native.Nat.{ℕ}
use mathlib.Core.Path.{◌∙◌, ap}
use native.Mathlib.Numerals.{add-one}
use native.Mathlib.Omega.{arith}
use Rattle.std.proofs.Common.{rules}
use Rattle.ground.specs.Mask.{has}
use Rattle.model.specs.declared.Event.TheVariants.{Deliver}
use Rattle.trace_text.proofs.Told.{wrote_no-lines, wrote-more, wrote_all, wrote-sent}
use Rattle.trace.specs.Shown.{is_new, sent_to}
use Rattle.trace_text.proofs.sent.put_sent_to.Invariants.{told}
use Rattle.trace_text.proofs.sent.put_sent_to.Goals as goal

pub loop-j-init : goal.loop-j-init
loop-j-init c = wrote_no-lines _ _ (search rules) (search rules)

pub loop-j-preserved : goal.loop-j-preserved
loop-j-preserved c =
    let l = c.loop-j in
    let a = c.args in
    wrote-more l.j (told a.kind a.i a.old a.new) l.invariant
    (wrote-sent _ _ _ _ (c.is_new.ensures ∙ ap (λ (j : ℕ). is_new (has a.old j) (has a.new j)) (add-one l.j)) (ap (λ (j : ℕ). Deliver a.i j a.kind) (add-one l.j)) c.put_told_if.ensures)

pub returns : goal.returns
unfolding sent_to
returns c = wrote_all _ (omega arith) c.loop-j.invariant
