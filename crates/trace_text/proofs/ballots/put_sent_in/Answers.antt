-- `trace_text::ballots::put_sent_in` meets its contract.
use native.Mathlib.Numerals.{add-one}
use native.Mathlib.Omega.{arith}
use Rattle.std.proofs.Common.{rules}
use Rattle.text.proofs.Wrote.{wrote-text}
use Rattle.trace_text.proofs.Told.{wrote_no-lines, wrote-more, wrote_all}
use Rattle.trace.specs.Shown.{sent_from, sent_in}
use Rattle.trace_text.proofs.ballots.put_sent_in.Goals as goal

pub loop-k-init : goal.loop-k-init
loop-k-init c = wrote_no-lines _ _ (search rules) (search rules)

pub loop-k-preserved : goal.loop-k-preserved
loop-k-preserved c =
    let l = c.loop-k in
    let a = c.args in
    wrote-more l.k (λ i. sent_from a.kind a.n a.b i a.old a.new) l.invariant (wrote-text c.put_sent_from.ensures (rw add-one))

pub returns : goal.returns
unfolding sent_in
returns c = wrote_all _ (omega arith) c.loop-k.invariant
