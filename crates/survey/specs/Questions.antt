-- The questions put to the record's numbers. Document 02, U13.
use Rattle.std.specs.Prelude.{ℕ, ◌+◌, ◌-◌, Bool, ◌&&◌, List, [], ◌∷◌, leb}
use Rattle.model.specs.Questions.{Reply, Question, ask, first_no}
use Rattle.model.specs.Ranges.{sizes_in_range}
use Rattle.generator.specs.File.{most_drawn}

-- "generator numbers s to s + k − 1, k from 1 to 1,000"; "27, k out of range, s of 0, or s + k − 1 above 4,294,967,295"
unfoldable pub numbers_in_range : ℕ → ℕ → Bool
numbers_in_range s k = leb 1 k && leb k 1000 && leb 1 s && leb (s + k - 1) 4294967295

-- "27, ..; after question 4 and before 23". Of 23 the count is left: a starting number of 0 has got 27.
abbrev pub asked : ℕ → ℕ → ℕ → ℕ → ℕ → List Question
asked n f count s k = ask 4 (sizes_in_range n f) ∷ ask 27 (numbers_in_range s k) ∷ ask 23 (leb count most_drawn) ∷ []

unfoldable pub refusal_of : ℕ → ℕ → ℕ → ℕ → ℕ → Reply
refusal_of n f count s k = first_no (asked n f count s k)
