use Prim.Native.Nat.{suc}
use native.Mathlib.Omega.{arith}
use borrow.Author.Tests.{le-leb, lt-leb}
use Rattle.controller_state.proofs.conditions.phase_after_vote.Goals as goal

pub returns-then-i-f : goal.returns-then-i-f
returns-then-i-f c = simp (le-leb c.args.i (suc c.args.f) (omega arith))

pub returns : goal.returns
returns c = simp (lt-leb c.args.i (suc c.args.f) (omega arith))
