-- `trace_text::put_came` meets its contract.
use Rattle.text.proofs.Wrote.{wrote_then, wrote-text}
use Rattle.trace.specs.Lines.{text}
use Rattle.trace_text.proofs.Told.{wrote_both}
use Rattle.trace.specs.Shown.{came_of}
use Rattle.trace_text.proofs.put_came.Goals as goal

pub returns-in-Play : goal.returns-in-Play
unfolding came_of
returns-in-Play c =
    wrote-text (wrote_both _ _ c.put_changes.ensures c.put_event.ensures) (rw c.in-Play.is)

pub returns-in-Back : goal.returns-in-Back
unfolding came_of text
returns-in-Back c =
    wrote-text (wrote_then c.put_undone.ensures c.put_changes-in-Back.ensures) (rw c.in-Back.is)
