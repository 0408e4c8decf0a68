-- `line::first_caller` meets its contract. The invariant: the first caller met from here in the steps left is the first met from the start.
use Rattle.std.specs.Prelude.{◌≡◌, ◌-◌}
use Rattle.line.specs.Turns.{first_caller}
use Rattle.line.proofs.first_caller.Given as goal

abbrev pub invariant-loop-met : goal.invariant-loop-met
invariant-loop-met l = first_caller l.line (8 - l.met) l.lock ≡ first_caller l.line 8 l.from
