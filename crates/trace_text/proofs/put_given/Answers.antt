-- `trace_text::put_given` meets its contract.
use Rattle.text.proofs.Wrote.{wrote-text}
use mathlib.Core.List.{append-nil}
use mathlib.Core.Path.{sym}
use Rattle.trace.specs.Lines.{text, line_text}
use Rattle.trace.specs.Shown.{given}
use Rattle.trace_text.proofs.put_given.Goals as goal

pub returns-in-Decide : goal.returns-in-Decide
unfolding given text line_text
returns-in-Decide c = wrote-text c.put_told.ensures (rw c.in-Decide.is (sym (append-nil _)))
