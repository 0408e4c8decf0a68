-- What the report program prints. Document 02, U13.
use Rattle.std.specs.Prelude.{ℕ, ◌≤◌, cond, List, eqb, length}
use Rattle.model.specs.Questions.{Reply, accepted, refused}
use Rattle.records.specs.Bytes.{byte, number2, number4}
use Rattle.text.specs.Text.{refusal}
use Rattle.survey.specs.Surveys.{survey_of}
use Rattle.survey.specs.Questions.{refusal_of}
use Rattle.survey.specs.Page.{page, longest_page}
use Rattle.survey_output.specs.Schedules.{end_of}

-- "A refusal prints just "- " and its number"
abbrev pub page_or_refusal : Reply → List ℕ → List ℕ
page_or_refusal accepted text = text
page_or_refusal (refused q) text = refusal q

unfoldable pub output_for : ℕ → ℕ → ℕ → ℕ → ℕ → List ℕ
output_for n f count s k = page_or_refusal (refusal_of n f count s k) (page (survey_of (end_of n f count) s k) k)

-- "one record on standard input: n, f, a count of drawn events (2), s (4), k (2)"; "1, not 10 bytes"
unfoldable pub output_of : List ℕ → List ℕ
output_of input = cond (eqb (length input) 10) (output_for (byte input 0) (byte input 1) (number2 input 2) (number4 input 4) (number2 input 8)) (refusal 1)

-- no output of any input is longer
abbrev pub longest_output : ℕ
longest_output = longest_page

abbrev pub AllFit : Type 0
AllFit = (input : List ℕ) → length (output_of input) ≤ longest_output
