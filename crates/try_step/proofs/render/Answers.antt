-- `render` is safe and ends, and what it answers lies within the buffer: there are at most as many records as answers, and each bench is laid at one of the ring's places.
use Rattle.std.proofs.Common.{arith, refl, sym, ◌∙◌}
use borrow.Author.Tests.{ltb-false}
use Rattle.text.specs.WritingLaws.{rendered}
use Rattle.bench_report.specs.Limits.{longest_schedule, is_too_long}
use Rattle.try_step.proofs.render.Goals as goal

pub returns-then-is_too_long : goal.returns-then-is_too_long
returns-then-is_too_long c = let e = c.write_too_long.ensures in let w = rendered _ _ (e.value, e.out_after) in (w.2, w.3)

pub loop-k-init : goal.loop-k-init
unfolding is_too_long
loop-k-init c = (omega arith, ltb-false longest_schedule _ (sym c.is_too_long.ensures ∙ c.if-is_too_long.false), refl, refl, omega arith)

pub returns : goal.returns
returns c = let e = c.write_report.ensures in let w = rendered _ _ (e.value, e.out_after) in (w.2, w.3)
