-- `survey::ended::all_ended` meets its contract. The invariant: of the first i controllers each has ended so.
use Rattle.std.specs.Prelude.{ℕ, ◌≡◌, true}
use Rattle.ground.specs.Quantify.{all_to}
use Rattle.survey.specs.Ended.{ended_if, row_of}
use Rattle.survey.proofs.ended.all_ended.Given as goal

abbrev pub invariant-loop-i : goal.invariant-loop-i
invariant-loop-i l = all_to l.i (λ k. ended_if l.moving (row_of l.end k)) ≡ true
