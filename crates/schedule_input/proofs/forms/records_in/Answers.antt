-- `schedule_input::records_in` meets its contract, for each form.
use mathlib.Core.Path.{sym, ◌∙◌}
use Rattle.schedule_input.specs.InputLaws.{of-text, of-records, same_answer, no-room_for, copied}
use Rattle.schedule_input.proofs.forms.records_in.Goals as goal

pub returns-then-is_text : goal.returns-then-is_text
returns-then-is_text c = same_answer _ (of-text c.args.s.now (sym c.is_text.ensures ∙ c.if-is_text.true)) (c.read.ensures.value, c.read.ensures.out_after)

pub returns-then-out-s : goal.returns-then-out-s
returns-then-out-s c = same_answer _ (of-records c.args.s.now (sym c.is_text.ensures ∙ c.if-is_text.false)) (no-room_for c.args.s.now _ c.if-out-s.true)

pub returns : goal.returns
returns c =
    same_answer _ (of-records c.args.s.now (sym c.is_text.ensures ∙ c.if-is_text.false)) (copied c.args.s.now _ _ _ c.if-out-s.false (c.write_bytes.ensures.value, c.write_bytes.ensures.out_after))
