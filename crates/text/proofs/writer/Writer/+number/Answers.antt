use Rattle.std.proofs.Common.{sym, arith}
use Rattle.text.proofs.Digits.{decimal-one, decimal-more}
use Rattle.text.proofs.Wrote.{wrote_then, wrote-text}
use Rattle.text.proofs.writer.Writer.+number.Goals as goal

pub returns-then-v-lt10 : goal.returns-then-v-lt10
returns-then-v-lt10 t c = wrote-text c.byte.ensures (sym (decimal-one c.args.v c.if-v-lt10.true))

pub returns : goal.returns
returns t c = wrote-text (wrote_then c.number.ensures c.byte-2.ensures) (sym (decimal-more c.args.v c.if-v-lt10.false (omega arith)))
