-- `words::uncommented` meets its contract.
use Rattle.std.proofs.Common.{ℕ, ◌∙◌, ap, sym, arith, take, length-take-le}
use Rattle.std.proofs.Math.Nat.{zero-add}
use Rattle.words.proofs.scan.uncommented.Goals as goal

pub slice_bounds-result-end : goal.slice_bounds-result-end
slice_bounds-result-end c = sym (length-take-le _ _ (c.end_of_run-end.ensures.high (omega arith)))

pub returns : goal.returns
returns c = ap (λ (k : ℕ). take k c.args.l.now) (c.end_of_run-end.ensures.is ∙ zero-add _)
