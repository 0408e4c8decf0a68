use native.Mathlib.Nat.{mod-lt}
use native.Mathlib.Omega.{arith}
use Rattle.generator.proofs.drawing.controller_of.Goals as goal

pub overflow_cast-result-2 : goal.overflow_cast-result-2
overflow_cast-result-2 c = let m = mod-lt c.args.s c.requires in omega arith

pub overflow_add-result : goal.overflow_add-result
overflow_add-result c = let m = mod-lt c.args.s c.requires in omega arith
