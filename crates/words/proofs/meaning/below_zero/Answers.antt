-- `words::below_zero` meets its contract.
use Rattle.std.proofs.Common.{◌^◌, arith}
use Rattle.words.specs.NumberLaws.{not-above}
use Rattle.words.proofs.meaning.below_zero.Goals as goal

pub overflow_sub-result : goal.overflow_sub-result
overflow_sub-result c = omega (arith, not-above (2 ^ 31) c.args.w.now c.in_ok-v.v c.in_ok-v.ensures)
