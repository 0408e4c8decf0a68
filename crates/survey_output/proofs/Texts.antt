-- The output: a refusal or the page; and how long it can be.
use Prim.Native.Nat.{ℕ, ◌≤◌}
use mathlib.Core.Path.{◌≡◌, refl}
use mathlib.Core.List.{List}
use native.Mathlib.Omega.{arith}
use lib.Dec.{eqb}
use lib.ListN.{length}
use Rattle.ground.specs.Tests.{by_cond}
use Rattle.model.specs.Questions.{Reply, accepted, refused}
use Rattle.records.specs.Bytes.{byte, number2, number4}
use Rattle.text.specs.Text.{refusal}
use Rattle.text.specs.Lengths.{refusal-length}
use Rattle.survey.specs.Surveys.{survey_of}
use Rattle.survey.specs.Questions.{refusal_of}
use Rattle.survey.specs.Page.{page}
use Rattle.survey.proofs.Widths.{page-length}
use Rattle.survey_output.specs.Schedules.{end_of}
use Rattle.survey_output.specs.Output.{page_or_refusal, output_for, output_of, longest_output, AllFit}

module _ (n f count s k : ℕ) where
  pub refused-output : (q : ℕ) → refused q ≡ refusal_of n f count s k → output_for n f count s k ≡ refusal q
  unfolding output_for
  refused-output q e = rw (← e)

  pub page-output : accepted ≡ refusal_of n f count s k → output_for n f count s k ≡ page (survey_of (end_of n f count) s k) k
  unfolding output_for
  page-output e = rw (← e)

for-length : (n f count s k : ℕ) → length (output_for n f count s k) ≤ longest_output
unfolding output_for
for-length n f count s k = at (refusal_of n f count s k)
  where
    at : (r : Reply) → length (page_or_refusal r (page (survey_of (end_of n f count) s k) k)) ≤ longest_output
    at accepted = page-length (survey_of (end_of n f count) s k) k
    at (refused q) = omega (arith, refusal-length q)

pub all_fit : AllFit
unfolding output_of
all_fit input =
    by_cond (λ (l : List ℕ). length l ≤ longest_output) (eqb (length input) 10) (output_for (byte input 0) (byte input 1) (number2 input 2) (number4 input 4) (number2 input 8)) (refusal 1)
    (λ _. for-length (byte input 0) (byte input 1) (number2 input 2) (number4 input 4) (number2 input 8))
    (λ _. omega (arith, refusal-length 1))
