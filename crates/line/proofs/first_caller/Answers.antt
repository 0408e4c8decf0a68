-- `line::first_caller` meets its contract. The invariant: the first caller met from here in the steps left is the first met from the start.
use Rattle.std.specs.Prelude.{◌-◌, ◌+◌, ◌≡◌}
use Rattle.std.proofs.Common.{sym, ◌∙◌, arith}
use Rattle.line.proofs.Callers.{walk_here, walk-later, walk_none}
use Rattle.line.proofs.first_caller.Goals as goal

pub returns-then-is_calling : goal.returns-then-is_calling
returns-then-is_calling c = sym (walk_here _ _ _ (omega arith) (sym c.is_calling.ensures ∙ c.if-is_calling.true)) ∙ c.loop-met.invariant

pub loop-met-preserved : goal.loop-met-preserved
loop-met-preserved c =
    let less : 8 - (c.loop-met.met + 1) ≡ 8 - c.loop-met.met - 1 = omega arith in
    rw (less, c.lock_after-lock.ensures) (sym (walk-later _ _ _ (omega arith) (sym c.is_calling.ensures ∙ c.if-is_calling.false)) ∙ c.loop-met.invariant)

pub returns : goal.returns
returns c = sym (walk_none _ _ _ (omega arith)) ∙ c.loop-met.invariant
