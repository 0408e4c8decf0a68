-- `survey::ended::any_present` meets its contract. The invariant: of the first i controllers none is present.
use Rattle.std.specs.Prelude.{ℕ, ◌≡◌, false}
use Rattle.ground.specs.Quantify.{any_to}
use Rattle.survey.specs.Ended.{is_present, row_of}
use Rattle.survey.proofs.ended.any_present.Given as goal

abbrev pub invariant-loop-i : goal.invariant-loop-i
invariant-loop-i l = any_to l.i (λ k. is_present (row_of l.end k)) ≡ false
