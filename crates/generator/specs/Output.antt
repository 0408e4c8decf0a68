-- What the generator program writes. Document 02, U6. Its standard input has n, f, count (2), start (4).
use Rattle.std.specs.Prelude.{ℕ, ◌*◌, ◌≤◌, cond, List, eqb, length}
use Rattle.ground.specs.Limit.{limit}
use Rattle.model.specs.Questions.{Reply, accepted, refused}
use Rattle.records.specs.Bytes.{byte, number2, number4}
use Rattle.event_record.specs.Events.{event_length}
use Rattle.text.specs.Text.{refusal}
use Rattle.generator.specs.File.{file_of, most_drawn, refusal_of}
use Rattle.generator.specs.Claim.{records_in}

-- the file, or "- " and the refusal's number
abbrev pub file_or_refusal : Reply → List ℕ → List ℕ
file_or_refusal accepted file = file
file_or_refusal (refused q) file = refusal q

unfoldable pub output_for : ℕ → ℕ → ℕ → ℕ → List ℕ
output_for n f count start = file_or_refusal (refusal_of n f count start) (file_of n f count start)

-- input of another length gets 1
unfoldable pub output_of : List ℕ → List ℕ
output_of s = cond (eqb (length s) 8) (output_for (byte s 0) (byte s 1) (number2 s 2) (number4 s 4)) (refusal 1)

-- the file of the most controllers and the most drawn events; no output of any input is longer
abbrev pub longest_output : ℕ
longest_output = event_length * records_in limit most_drawn

abbrev pub AllFit : Type 0
AllFit = (input : List ℕ) → length (output_of input) ≤ longest_output
