-- After k turns the check is that of the first k words (`check_to`), so at the end that of all before the check word.
use mathlib.Core.Path.{◌≡◌}
use Rattle.cabinet_state.specs.Words.{check_to, column_in}
use Rattle.cabinet_state.proofs.checks.check_of.Given as goal

abbrev pub invariant-loop-k : goal.invariant-loop-k
invariant-loop-k l = (l.acc ≡ check_to l.k (column_in l.head l.ballots l.sets))
