-- `schedule_text::put_records` meets its contract. The invariant: the records w of the lines before `at` are put, and with those of the lines from it on they make the
-- text's.
use Rattle.std.specs.Prelude.{Ok, Err}
use mathlib.Core.Path.{refl, sym, ◌∙◌, ap}
use mathlib.Core.List.{[], ◌++◌}
use native.Mathlib.Omega.{arith}
use Rattle.std.proofs.Common.{rules}
use Rattle.text.specs.WritingLaws.{put-moved}
use Rattle.text.proofs.Wrote.{wrote-nothing, wrote_then}
use Rattle.schedule_text.specs.Texts.{read_line, bytes_of_read}
use Rattle.schedule_text.specs.Turning.{LineAt}
use Rattle.schedule_text.specs.TextLaws.{line_refused, line_read, text-begun, text-ended, turns-done, turns-refused}
use Rattle.schedule_text.proofs.reading.put_records.Goals as goal

pub loop-at-init : goal.loop-at-init
loop-at-init c = (omega arith, omega arith, ([], wrote-nothing _ (search rules) (search rules), text-begun _))

pub returns-in-Err : goal.returns-in-Err
returns-in-Err c =
    let l = c.loop-at in
    let t = c.args.text.now in
    let e = c.end_of_run-end.ensures in
    let met : LineAt t l.at (Err c.in-Err.word) c.end_of_run-end.result = record { ends = e.is; line = c.in-Err.ensures ∙ ap read_line c.uncommented.ensures; low = e.low; high = e.high c.loop-at-test.true } in
    turns-refused _ l.line c.in-Err.word.0 _ _ (sym (line_refused t l.at c.loop-at-test.true met l.line l.invariant.2.0 c.in-Err.word refl) ∙ l.invariant.2.2)

pub overflow_add-at : goal.overflow_add-at
overflow_add-at c = omega (arith, c.end_of_run-end.ensures.high c.loop-at-test.true)

pub loop-at-smaller : goal.loop-at-smaller
loop-at-smaller c =
    omega (arith, c.end_of_run-end.ensures.low, c.end_of_run-end.ensures.high c.loop-at-test.true)

pub loop-at-preserved : goal.loop-at-preserved
loop-at-preserved c =
    let l = c.loop-at in
    let t = c.args.text.now in
    let e = c.end_of_run-end.ensures in
    let met : LineAt t l.at (Ok c.in-Ok.fields) c.end_of_run-end.result = record { ends = e.is; line = c.in-Ok.ensures ∙ ap read_line c.uncommented.ensures; low = e.low; high = e.high c.loop-at-test.true } in (
      omega (arith, met.high),
      omega (arith, met.low),
      (l.invariant.2.0 ++ bytes_of_read (Ok c.in-Ok.fields), wrote_then l.invariant.2.1 c.put_read.ensures, sym (line_read t l.at c.loop-at-test.true met l.line l.invariant.2.0 c.in-Ok.fields refl) ∙ l.invariant.2.2),
    )

pub returns : goal.returns
returns c =
    let l = c.loop-at in
    turns-done _ l.invariant.2.0 _ _ l.w.at (sym (text-ended c.args.text.now l.at l.line l.invariant.2.0 c.loop-at-test.false) ∙ l.invariant.2.2)
    (put-moved c.new-w.ensures.kept (search rules) c.new-w.ensures.front l.invariant.2.1.put)
