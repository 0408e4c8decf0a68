-- `bench_output::render_either` meets its contract, at each of its returns.
use Prim.Native.Nat.{ℕ}
use Rattle.std.specs.Prelude.{Err}
use mathlib.Core.Path.{sym, ◌∙◌, ap}
use lib.ListN.{length-replicate}
use lib.Seq.{length-take-le}
use Rattle.text.specs.WritingLaws.{same-fitted, rendered}
use Rattle.bench_output.specs.Output.{output_of}
use Rattle.schedule_input.specs.InputLaws.{text_too-long, done-within, done-output, refused-output, no-room-output}
use Rattle.bench_output.proofs.either.render_either.Goals as goal

pub returns-then-s-gt-LONGEST_TEXT : goal.returns-then-s-gt-LONGEST_TEXT
returns-then-s-gt-LONGEST_TEXT c = rendered _ _ (same-fitted _ (text_too-long output_of c.args.s.now c.if-s-gt-LONGEST_TEXT.true) (c.write_refusal.ensures.value, c.write_refusal.ensures.out_after))

pub slice_bounds-records-end : goal.slice_bounds-records-end
slice_bounds-records-end c =
    done-within output_of c.args.s.now _ (length-replicate {A = ℕ} 40960 0) c.if-s-gt-LONGEST_TEXT.false c.records_in.ensures _ c.in-Ok.is

pub slice_bounds-render-end : goal.slice_bounds-render-end
slice_bounds-render-end c =
    sym (length-take-le _ _ (done-within output_of c.args.s.now _ (length-replicate {A = ℕ} 40960 0) c.if-s-gt-LONGEST_TEXT.false c.records_in.ensures _ c.in-Ok.is))

pub returns-in-Ok : goal.returns-in-Ok
returns-in-Ok c =
    rendered _ _ (same-fitted _ (done-output output_of c.args.s.now _ (length-replicate {A = ℕ} 40960 0) c.if-s-gt-LONGEST_TEXT.false c.records_in.ensures _ c.in-Ok.is) (c.render.ensures.0, c.render.ensures.1))

pub returns-in-Err-Refused : goal.returns-in-Err-Refused
returns-in-Err-Refused c =
    rendered _ _ (same-fitted _ (refused-output output_of c.args.s.now _ (length-replicate {A = ℕ} 40960 0) c.if-s-gt-LONGEST_TEXT.false c.records_in.ensures _ _ (c.in-Err-Refused.is ∙ ap Err c.in-Err-Refused.field-0-is)) (rw c.in-Err-Refused.field-0-is at c.write_refused_line.ensures))

pub returns-in-Err-NoRoom : goal.returns-in-Err-NoRoom
returns-in-Err-NoRoom c =
    rendered _ _ (same-fitted _ (no-room-output output_of c.args.s.now _ (length-replicate {A = ℕ} 40960 0) c.if-s-gt-LONGEST_TEXT.false c.records_in.ensures (c.in-Err-NoRoom.is ∙ ap Err c.in-Err-NoRoom.field-0-is)) (c.write_refusal-in-Err-NoRoom.ensures.value, c.write_refusal-in-Err-NoRoom.ensures.out_after))
