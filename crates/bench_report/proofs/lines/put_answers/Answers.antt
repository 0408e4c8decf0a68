-- `bench_report::lines::put_answers` meets its contract. The invariant: the lines of the first i answers are written.
use native.Mathlib.Omega.{arith}
use Rattle.std.proofs.Common.{rules}
use Rattle.text.specs.WritingLaws.{put-moved}
use Rattle.text.proofs.Wrote.{wrote-none, wrote-line, wrote-lines}
use Rattle.bench_report.proofs.lines.put_answers.Goals as goal

pub returns-then-answers-out : goal.returns-then-answers-out
returns-then-answers-out c = c.put_answers_in.ensures

pub loop-i-init : goal.loop-i-init
loop-i-init c = wrote-none _ _ (search rules) (search rules)

pub loop-i-preserved : goal.loop-i-preserved
loop-i-preserved c =
    let l = c.loop-i in
    wrote-line l.i _ l.invariant c.put_answer.ensures

pub returns : goal.returns
returns c =
    put-moved c.new-w.ensures.kept (search rules) c.new-w.ensures.front (wrote-lines _ (omega arith) c.loop-i.invariant).put
