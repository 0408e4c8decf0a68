-- `words::next_word` meets its contract.
use Prim.Native.Nat.{ℕ}
use mathlib.Core.Path.{◌∙◌, ap}
use Rattle.words.specs.Words.{end_of_run, span, span_at}
use Rattle.words.specs.declared.Class.TheVariants.{Word}
use Rattle.words.proofs.scan.next_word.Goals as goal

pub returns : goal.returns
unfolding span_at
returns c =
    let gap = c.end_of_run-from.ensures in
    let word = c.end_of_run-to.ensures in
    let e = word.is ∙ ap (λ (k : ℕ). end_of_run Word c.args.s.now k) gap.is in
    record {
      is = λ i. span (gap.is i) (e i);
      low = gap.low;
      middle = word.low;
      high = λ h. word.high (gap.high h);
    }
