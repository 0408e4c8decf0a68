-- `schedule_input::write_text` meets its contract, an answer each.
use Rattle.std.specs.Prelude.{Err}
use mathlib.Core.Path.{sym, ◌∙◌, ap}
use Rattle.schedule_input.specs.InputLaws.{text-done, text-refused, text_no-room}
use Rattle.schedule_input.proofs.output.write_text.Goals as goal

pub returns-in-Ok : goal.returns-in-Ok
returns-in-Ok c = text-done _ _ _ _ (sym c.in-Ok.is ∙ c.write.ensures.value) c.write.ensures.out_after

pub returns-in-Err-Refused : goal.returns-in-Err-Refused
returns-in-Err-Refused c =
    text-refused _ _ _ _ _ _ _ (sym (c.in-Err-Refused.is ∙ ap Err c.in-Err-Refused.field-0-is) ∙ c.write.ensures.value) c.write.ensures.out_after c.write_refused_record.ensures

pub returns-in-Err-NoRoom : goal.returns-in-Err-NoRoom
returns-in-Err-NoRoom c = text_no-room _ _ _ (sym (c.in-Err-NoRoom.is ∙ ap Err c.in-Err-NoRoom.field-0-is) ∙ c.write.ensures.value) c.write.ensures.out_after
