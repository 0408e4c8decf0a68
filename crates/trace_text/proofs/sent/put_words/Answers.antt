-- `trace_text::sent::put_words` meets its contract.
use mathlib.Core.Path.{◌∙◌}
use native.Mathlib.Numerals.{add-one}
use native.Mathlib.Omega.{arith}
use Rattle.std.proofs.Common.{rules}
use Rattle.ground.specs.Lists.{nth}
use Rattle.protocol.specs.Benches.{fresh_station, fresh, unsent_all}
use Rattle.trace_text.proofs.Told.{wrote_no-lines, wrote-more, wrote_all, wrote_word}
use Rattle.trace.specs.Shown.{word_put, put}
use Rattle.trace_text.proofs.sent.put_words.Invariants.{words}
use Rattle.trace_text.proofs.sent.put_words.Goals as goal

pub loop-i-init : goal.loop-i-init
loop-i-init c = wrote_no-lines _ _ (search rules) (search rules)

pub loop-i-preserved : goal.loop-i-preserved
unfolding word_put nth fresh_station fresh unsent_all
loop-i-preserved c =
    let l = c.loop-i in
    let a = c.args in
    let was = c.proposal_of-before.ensures in
    let is = c.proposal_of-now.ensures in
    wrote-more l.i (words a.old a.new) l.invariant
    (wrote_word _ _ _ _ (c.is_word_new.ensures ∙ rw (was, is)) (rw (add-one, c.is_move.ensures, is)) c.put_told_if.ensures)

pub returns : goal.returns
unfolding put
returns c = wrote_all _ (omega arith) c.loop-i.invariant
