use mathlib.Core.Path.{sym, ap, ◌∙◌}
use native.Mathlib.Omega.{arith}
use Rattle.event_record.specs.Events.{read_event}
use Rattle.schedule_reader.specs.PieceLaws.{part-is-piece, no-piece, nothing_read}
use Rattle.schedule_reader.proofs.event_at.Goals as goal

pub returns-then-s-at : goal.returns-then-s-at
returns-then-s-at c = sym (ap read_event (no-piece _ _ (omega arith)) ∙ nothing_read)

pub returns : goal.returns
returns c = c.read_event.ensures ∙ ap read_event (part-is-piece _ _ _ c.piece_end-to.ensures.0)
