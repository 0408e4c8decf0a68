-- `schedule_text::row_of` meets its contract: each arm of the match is its row, and what is left is no kind.
use mathlib.Core.Path.{sym, ◌∙◌}
use Rattle.std.proofs.Common.{arith}
use Rattle.schedule_text.specs.FormLaws.{no-form}
use Rattle.schedule_text.proofs.forms.row_of.Goals as goal

pub returns-in_default : goal.returns-in_default
returns-in_default c = c.row-in_default.ensures ∙ sym (no-form c.args.kind c.args.c (omega arith))
