-- `schedule_input::render_text` meets its contract, at each of its returns.
use Prim.Native.Nat.{ℕ}
use Rattle.std.specs.Prelude.{Err}
use mathlib.Core.Path.{sym, ◌∙◌, ap}
use mathlib.Core.List.{List}
use lib.ListN.{length-replicate}
use lib.Seq.{length-take-le}
use Rattle.text.specs.WritingLaws.{same-fitted, rendered}
use Rattle.schedule_text.specs.Texts.{write_text}
use Rattle.schedule_input.specs.Input.{text_or}
use Rattle.schedule_input.specs.InputLaws.{text_too-long, done-within, done-output, refused-output, no-room-output}
use Rattle.schedule_input.proofs.output.render_text.Goals as goal

abbrev of : List ℕ → List ℕ
of r = text_or (write_text r)

pub returns-then-s-gt-LONGEST_TEXT : goal.returns-then-s-gt-LONGEST_TEXT
returns-then-s-gt-LONGEST_TEXT c = rendered _ _ (same-fitted _ (text_too-long of c.args.s.now c.if-s-gt-LONGEST_TEXT.true) (c.write_refusal.ensures.value, c.write_refusal.ensures.out_after))

pub slice_bounds-records-end : goal.slice_bounds-records-end
slice_bounds-records-end c =
    done-within of c.args.s.now _ (length-replicate {A = ℕ} 40960 0) c.if-s-gt-LONGEST_TEXT.false c.records_in.ensures _ c.in-Ok.is

pub slice_bounds-write_text-end : goal.slice_bounds-write_text-end
slice_bounds-write_text-end c =
    sym (length-take-le _ _ (done-within of c.args.s.now _ (length-replicate {A = ℕ} 40960 0) c.if-s-gt-LONGEST_TEXT.false c.records_in.ensures _ c.in-Ok.is))

pub returns-in-Ok : goal.returns-in-Ok
returns-in-Ok c =
    rendered _ _ (same-fitted _ (done-output of c.args.s.now _ (length-replicate {A = ℕ} 40960 0) c.if-s-gt-LONGEST_TEXT.false c.records_in.ensures _ c.in-Ok.is) c.write_text.ensures)

pub returns-in-Err-Refused : goal.returns-in-Err-Refused
returns-in-Err-Refused c =
    rendered _ _ (same-fitted _ (refused-output of c.args.s.now _ (length-replicate {A = ℕ} 40960 0) c.if-s-gt-LONGEST_TEXT.false c.records_in.ensures _ _ (c.in-Err-Refused.is ∙ ap Err c.in-Err-Refused.field-0-is)) (rw c.in-Err-Refused.field-0-is at c.write_refused_line.ensures))

pub returns-in-Err-NoRoom : goal.returns-in-Err-NoRoom
returns-in-Err-NoRoom c =
    rendered _ _ (same-fitted _ (no-room-output of c.args.s.now _ (length-replicate {A = ℕ} 40960 0) c.if-s-gt-LONGEST_TEXT.false c.records_in.ensures (c.in-Err-NoRoom.is ∙ ap Err c.in-Err-NoRoom.field-0-is)) (c.write_refusal-in-Err-NoRoom.ensures.value, c.write_refusal-in-Err-NoRoom.ensures.out_after))
