-- One schedule more: there is room for it, and the figures with it are those of the definition.
use Prim.Native.Nat.{ℕ, ◌+◌, ◌≤◌}
use mathlib.Core.Path.{◌≡◌, ◌∙◌}
use native.Mathlib.Numerals.{add-one}
use native.Mathlib.Omega.{arith}
use Rattle.bench_report.specs.declared.Summary.{Summary}
use Rattle.survey.specs.declared.Survey.{Survey}
use Rattle.survey.specs.Surveys.{with_one, survey_of}
use Rattle.survey.proofs.Figures.{adds-up, sum-of_kinds, sum-within}
use Rattle.survey_output.specs.Bounds.{most_endings, most_of_one, most_sent, HasRoom}
use Rattle.survey_output.specs.Schedules.{end_of}
use Rattle.survey_output.proofs.Ends.{few-at-end}

module _ (n f count s done : ℕ) (r : Survey) (end : Summary) (sofar : r ≡ survey_of (end_of n f count) s done) (at : end ≡ end_of n f count (s + done)) where
  abbrev ends : ℕ → Summary
  ends g = end_of n f count g

  small-sum : done ≤ most_endings → (survey_of ends s done).sum ≤ most_sent
  small-sum h = omega (arith, sum-within ends s most_of_one (few-at-end n f count) done)

  pub has_room : done ≤ most_endings → HasRoom r end
  has_room h = rw (sofar, at) (record {
    endings = omega (arith, adds-up ends s done);
    messages = omega (arith, small-sum h, sum-of_kinds ends s done);
    sum = small-sum h;
    one = few-at-end n f count (s + done);
  })

  pub one_more : (next : Survey) → next ≡ with_one r (s + done) end → next ≡ survey_of ends s (done + 1)
  unfolding survey_of
  one_more next e = e ∙ rw (add-one, sofar, at)
