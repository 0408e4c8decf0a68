-- `words::line_span` meets its contract. The invariant: line _i begins at `at`.
use Rattle.std.proofs.Common.{ℕ, ◌+◌, ◌-◌, ◌≤◌, ◌<◌, ◌≡◌, ◌∙◌, ap, arith, length}
use Rattle.words.specs.Words.{end_of_run, span, line_at}
use Rattle.words.specs.LineLaws.{past_end, line-begun, line_on, line_nowhere, line-here}
use Rattle.words.specs.declared.Class.TheVariants.{Line}
use Rattle.words.proofs.scan.line_span.Goals as goal

pub loop-i-init : goal.loop-i-init
loop-i-init c = (omega arith, line-begun _)

pub returns-then-end-at : goal.returns-then-end-at
returns-then-end-at c =
    let l = c.loop-i in
    let a = c.args in
    let h : length a.s.now < line_at a.s.now l._i = rw (← l.invariant.1) c.if-end-at.true in
    let e : l._i + (a.k - l._i) ≡ a.k = omega arith in
    (line_nowhere a.s.now a.k (rw e at (past_end a.s.now l._i (a.k - l._i) h)), omega arith, omega arith)

pub overflow_add-at : goal.overflow_add-at
overflow_add-at c = omega (arith, c.end_of_run-at.ensures.high c.if-end-at.false)

pub loop-i-preserved : goal.loop-i-preserved
loop-i-preserved c =
    let l = c.loop-i in
    let s = c.args.s.now in
    let e = c.end_of_run-at.ensures in
    (omega (arith, e.high c.if-end-at.false), ap (λ (j : ℕ). j + 1) (e.is ∙ ap (end_of_run Line s) l.invariant.1) ∙ line_on s l._i)

pub returns-then-end-at-2 : goal.returns-then-end-at-2
returns-then-end-at-2 c =
    let l = c.loop-i in
    let a = c.args in
    let e : l._i ≡ a.k = omega arith in
    (line_nowhere a.s.now a.k (rw (← e, ← l.invariant.1) c.if-end-at-2.true), omega arith, omega arith)

pub returns : goal.returns
returns c =
    let l = c.loop-i in
    let a = c.args in
    let s = a.s.now in
    let e = c.end_of_run-to.ensures in
    let k : l._i ≡ a.k = omega arith in
    let at : l.at ≡ line_at s a.k = l.invariant.1 ∙ ap (line_at s) k in
    let h : line_at s a.k ≤ length s = rw (← at) c.if-end-at-2.false in
    (ap (span l.at) e.is ∙ ap (λ (j : ℕ). span j (end_of_run Line s j)) at ∙ line-here s a.k h, e.low, e.high c.if-end-at-2.false)
