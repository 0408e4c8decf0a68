-- `line::turn` meets its contract: nobody, or the first caller met.
use borrow.Author.Tests.{lt-ltb, le-ltb}
use native.Mathlib.Omega.{arith}
use Rattle.ground.specs.Lists.{put}
use Rattle.line.specs.Turns.{turn_of}
use Rattle.line.proofs.Callers.{met-high}
use Rattle.line.proofs.turn.Goals as goal

pub returns-then-lock-lt1 : goal.returns-then-lock-lt1
unfolding turn_of
returns-then-lock-lt1 c = simp (← c.lock_after-from.ensures, ← c.first_caller-lock.ensures, lt-ltb _ _ c.if-lock-lt1.true, c.unchanged.ensures)

pub bounds-line-lock : goal.bounds-line-lock
bounds-line-lock c = omega (arith, met-high c.args.line 8 c.lock_after-from.result)

pub returns : goal.returns
unfolding turn_of put
returns c = simp (← c.lock_after-from.ensures, ← c.first_caller-lock.ensures, le-ltb _ _ c.if-lock-lt1.false)
