-- `trace_text::sent::put_sent` meets its contract.
use native.Mathlib.Numerals.{add-one}
use native.Mathlib.Omega.{arith}
use Rattle.std.proofs.Common.{rules}
use Rattle.ground.specs.Lists.{nth}
use Rattle.text.proofs.Wrote.{wrote-text}
use Rattle.protocol.specs.Benches.{fresh_station, fresh, unsent_all}
use Rattle.trace_text.proofs.Told.{wrote_no-lines, wrote-more, wrote_all}
use Rattle.trace.specs.Shown.{sent_of}
use Rattle.trace_text.proofs.sent.put_sent.Invariants.{told}
use Rattle.trace_text.proofs.sent.put_sent.Goals as goal

pub loop-i-init : goal.loop-i-init
loop-i-init c = wrote_no-lines _ _ (search rules) (search rules)

pub loop-i-preserved : goal.loop-i-preserved
unfolding nth fresh_station fresh unsent_all
loop-i-preserved c =
    let l = c.loop-i in
    let a = c.args in
    wrote-more l.i (told a.kind a.old a.new) l.invariant (wrote-text c.put_sent_to.ensures (rw (add-one, c.receivers-now.ensures, c.receivers-before.ensures)))

pub returns : goal.returns
unfolding sent_of
returns c = wrote_all _ (omega arith) c.loop-i.invariant
