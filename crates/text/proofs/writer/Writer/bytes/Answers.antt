use Rattle.std.proofs.Common.{sym, rules, add-one}
use lib.Seq.{take-suc}
use Rattle.text.proofs.Wrote.{wrote_then, wrote-text}
use Rattle.text.proofs.writer.Writer.bytes.Goals as goal

pub loop-b-preserved : goal.loop-b-preserved
loop-b-preserved c =
    let l = c.loop-b in
    wrote-text (wrote_then l.invariant c.byte.ensures) (rw add-one (sym (take-suc _ l.b-index 0 (search rules))))
