-- the bytes before this one are written
use Rattle.std.specs.Prelude.{take}
use Rattle.text.specs.Writers.{Wrote}
use Rattle.text.proofs.writer.Writer.bytes.Given as goal

abbrev pub invariant-loop-b : goal.invariant-loop-b
invariant-loop-b l = Wrote l.initial.self l.self (take l.b-index l.bytes)
