-- WHAT IS PROMISED OF THE FIGURES, whatever the schedules are. Document 02, U13. `surveyed` in src/lib.rt has it as its contract.
use Rattle.std.specs.Prelude.{ℕ, zero, suc, ◌+◌, ◌≤◌, ◌<◌, ◌≡◌}
use Rattle.bench_report.specs.declared.Summary.{Summary}
use Rattle.survey.specs.declared.Ending.{Ending}
use Rattle.survey.specs.declared.Ending.TheVariants.{Moved, Stayed, Rest}
use Rattle.survey.specs.Ended.{ending_of}
use Rattle.survey.specs.Surveys.{all_kinds, survey_of}

-- a figure of each number, added up over s to s + k − 1
unfoldable pub total : (ℕ → ℕ) → ℕ → ℕ → ℕ
total figure s zero = 0
total figure s (suc k) = total figure s k + figure (s + k)

abbrev pub one_if_moved : Ending → ℕ
one_if_moved Moved = 1
one_if_moved Stayed = 0
one_if_moved Rest = 0

abbrev pub one_if_stayed : Ending → ℕ
one_if_stayed Moved = 0
one_if_stayed Stayed = 1
one_if_stayed Rest = 0

pub record Surveyed : Type 0 where
  -- "schedules in which every controller not stopped ended Move, likewise Stay"
  pub moved : (ends : ℕ → Summary) (s k : ℕ) → (survey_of ends s k).endings.moved ≡ total (λ g. one_if_moved (ending_of (ends g))) s k
  pub stayed : (ends : ℕ → Summary) (s k : ℕ) → (survey_of ends s k).endings.stayed ≡ total (λ g. one_if_stayed (ending_of (ends g))) s k
  -- "telegrams of each kind in all"
  pub votes : (ends : ℕ → Summary) (s k : ℕ) → (survey_of ends s k).messages.vote ≡ total (λ g. (ends g).messages.vote) s k
  pub acks : (ends : ℕ → Summary) (s k : ℕ) → (survey_of ends s k).messages.ack ≡ total (λ g. (ends g).messages.ack) s k
  pub helps : (ends : ℕ → Summary) (s k : ℕ) → (survey_of ends s k).messages.help ≡ total (λ g. (ends g).messages.help) s k
  pub helpeds : (ends : ℕ → Summary) (s k : ℕ) → (survey_of ends s k).messages.helped ≡ total (λ g. (ends g).messages.helped) s k
  -- "the three adding up to k"
  pub adds-up : (ends : ℕ → Summary) (s k : ℕ) → (survey_of ends s k).endings.moved + (survey_of ends s k).endings.stayed + (survey_of ends s k).endings.rest ≡ k
  -- "the most of all kinds together in one schedule": no schedule of the run has more,
  pub most : (ends : ℕ → Summary) (s k g : ℕ) → s ≤ g → g < s + k → all_kinds (ends g).messages ≤ (survey_of ends s k).most.sent
  -- and one of the run has so many:
  pub reached : (ends : ℕ → Summary) (s k : ℕ) → 1 ≤ k → all_kinds (ends (survey_of ends s k).most.number).messages ≡ (survey_of ends s k).most.sent
  pub in-run : (ends : ℕ → Summary) (s k : ℕ) → 1 ≤ k → (s ≤ (survey_of ends s k).most.number) × ((survey_of ends s k).most.number < s + k)
  -- "the smallest generator number that reached it": each smaller one of the run has fewer
  pub smallest : (ends : ℕ → Summary) (s k g : ℕ) → s ≤ g → g < (survey_of ends s k).most.number → all_kinds (ends g).messages < (survey_of ends s k).most.sent
  -- "the sum of all kinds" is that of the second line
  pub sum : (ends : ℕ → Summary) (s k : ℕ) → (survey_of ends s k).sum ≡ all_kinds (survey_of ends s k).messages
