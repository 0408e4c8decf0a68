-- `trace_text::lines::put_told_if` meets its contract.
use Rattle.trace_text.proofs.lines.put_told_if.Goals as goal

pub returns-then-shows : goal.returns-then-shows
returns-then-shows c = rw c.if-shows.true c.put_told.ensures

pub returns : goal.returns
returns c = rw c.if-shows.false c.bytes.ensures
