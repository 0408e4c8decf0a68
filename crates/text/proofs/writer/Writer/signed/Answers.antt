use Rattle.std.proofs.Common.{arith}
use Rattle.text.proofs.Digits.{signed-plus, signed-minus}
use Rattle.text.proofs.Wrote.{wrote_then, wrote-text}
use Rattle.text.proofs.writer.Writer.signed.Goals as goal

pub returns-then-v-lt2147483648 : goal.returns-then-v-lt2147483648
returns-then-v-lt2147483648 c = wrote-text c.number.ensures (signed-plus c.args.v c.if-v-lt2147483648.true)

pub returns : goal.returns
returns c = wrote-text (wrote_then c.byte.ensures c.number-2.ensures) (signed-minus c.args.v c.if-v-lt2147483648.false (omega arith))
