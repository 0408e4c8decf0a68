-- `trace_text::ballots::put_sent_from` meets its contract.
use Prim.Native.Nat.{ℕ}
use mathlib.Core.Path.{◌∙◌, ap}
use native.Mathlib.Numerals.{add-one}
use native.Mathlib.Omega.{arith}
use Rattle.std.proofs.Common.{rules}
use Rattle.trace_text.proofs.Told.{wrote_no-lines, wrote-more, wrote_all, wrote-sent}
use Rattle.model.specs.declared.BallotEvent.TheVariants.{Carry}
use Rattle.model.specs.declared.Event.TheVariants.{OfBallots}
use Rattle.trace.specs.Shown.{new_in, sent_from}
use Rattle.trace_text.proofs.ballots.put_sent_from.Invariants.{told}
use Rattle.trace_text.proofs.ballots.put_sent_from.Goals as goal

pub loop-k-init : goal.loop-k-init
loop-k-init c = wrote_no-lines _ _ (search rules) (search rules)

pub loop-k-preserved : goal.loop-k-preserved
loop-k-preserved c =
    let l = c.loop-k in
    let a = c.args in
    wrote-more l.k (told a.kind a.n a.b a.i a.old a.new) l.invariant
    (wrote-sent _ _ _ _ (c.is_new_in-is_new.ensures ∙ ap (λ (j : ℕ). new_in a.kind a.n a.b a.i j a.old a.new) (add-one l.k)) (ap (λ (j : ℕ). OfBallots (Carry a.i j a.kind a.b)) (add-one l.k)) c.put_told_if.ensures)

pub returns : goal.returns
unfolding sent_from
returns c = wrote_all _ (omega arith) c.loop-k.invariant
