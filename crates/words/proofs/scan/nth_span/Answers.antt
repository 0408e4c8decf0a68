-- `words::nth_span` meets its contract. The invariant: `at` is past the first _i words.
use Rattle.std.proofs.Common.{ℕ, ◌≡◌, ◌∙◌, ap, arith}
use Rattle.words.specs.Words.{span_at, past}
use Rattle.words.specs.WordLaws.{past-none, past_more}
use Rattle.words.specs.declared.Span.{Span}
use Rattle.words.proofs.scan.nth_span.Goals as goal

pub loop-i-init : goal.loop-i-init
loop-i-init c = (omega arith, past-none _)

pub loop-i-preserved : goal.loop-i-preserved
loop-i-preserved c =
    let l = c.loop-i in
    let s = c.args.s.now in
    let n = c.next_word-word.ensures in
    (n.high l.invariant.0, ap (λ (x : Span). x.to) n.is ∙ ap (λ (k : ℕ). (span_at s k).to) l.invariant.1 ∙ past_more s l._i)

pub returns : goal.returns
returns c =
    let l = c.loop-i in
    let s = c.args.s.now in
    let n = c.next_word.ensures in
    let e : l._i ≡ c.args.k = omega arith in
    (n.is ∙ ap (λ (k : ℕ). span_at s k) (l.invariant.1 ∙ ap (past s) e), n.middle, n.high l.invariant.0)
