-- `schedule_text::put_text` meets its contract. The invariant: the text w of the first k records is put, and with that of the others it makes the schedule's.
use mathlib.Core.Path.{sym, ◌∙◌, ap}
use mathlib.Core.List.{[], ◌++◌}
use native.Mathlib.Omega.{arith}
use Rattle.std.specs.Prelude.{◌≡◌, Err}
use Rattle.std.proofs.Common.{rules}
use Rattle.text.specs.WritingLaws.{put-moved}
use Rattle.text.proofs.Wrote.{wrote-nothing, wrote_then, wrote-text}
use Rattle.model.specs.Refusals.{numbered}
use Rattle.event_record.specs.Events.{fields_of}
use Rattle.schedule_text.specs.Forms.{line_of}
use Rattle.schedule_text.specs.TextLaws.{record-refused, record-read, records-begun, records-ended, turns-done, turns-refused}
use Rattle.schedule_text.proofs.writing.put_text.Goals as goal

pub loop-at-init : goal.loop-at-init
loop-at-init c = (omega arith, ([], wrote-nothing _ (search rules) (search rules), records-begun _))

pub returns-in_default : goal.returns-in_default
returns-in_default c =
    let l = c.loop-at in
    let s = c.args.s.now in
    let e : numbered c.record_at-read.result ≡ Err c.from.result = rw (c.from.ensures, c.answer_number.ensures, c.in_default.is) in
    turns-refused _ l.k c.from.result _ _ (sym (record-refused l.k s l.at c.loop-at-test.true l.invariant.1.0 c.from.result (sym c.record_at-read.ensures ∙ e)) ∙ l.invariant.1.2)

pub loop-at-preserved : goal.loop-at-preserved
loop-at-preserved c =
    let l = c.loop-at in
    let s = c.args.s.now in
    let act = c.in-Ok.act in
    let line = wrote-text c.put_line.ensures (ap line_of c.fields_of.ensures) in (
      omega arith,
      (l.invariant.1.0 ++ line_of (fields_of act), wrote_then l.invariant.1.1 line, sym (record-read l.k s l.at c.loop-at-test.true l.invariant.1.0 act (sym c.record_at-read.ensures ∙ ap numbered c.in-Ok.is)) ∙ l.invariant.1.2),
    )

pub returns : goal.returns
returns c =
    let l = c.loop-at in
    turns-done _ l.invariant.1.0 _ _ l.w.at (sym (records-ended l.k c.args.s.now l.at l.invariant.1.0 c.loop-at-test.false) ∙ l.invariant.1.2)
    (put-moved c.new-w.ensures.kept (search rules) c.new-w.ensures.front l.invariant.1.1.put)
