-- The words are those of the right answer, and the program's buffer holds them.
use Rattle.std.specs.Prelude.{ℕ, Result, Ok, Err, ◌≤◌, ◌≡◌, List, length}
use Rattle.std.proofs.Common.{ap, arith, eq-eqb}
use Rattle.text.specs.Lengths.{refusal-length}
use Rattle.levels.specs.declared.Willingness.{Willingness}
use Rattle.levels.specs.declared.Willingness.TheVariants.{Willing, CertainlyUnwilling, Unsure}
use Rattle.levels.specs.Judged.{Judged}
use Rattle.levels.specs.Ends.{willingness}
use Rattle.levels.proofs.EndsLaws.{ends-decide, judged-once}
use Rattle.levels_text.specs.Output.{range_at, willingness_in, words, output_of}

-- of an input of 16 bytes the program prints the words of the answer that is right for its two ranges
pub prints_right : (s : List ℕ) (w : Result Willingness ℕ) → length s ≡ 16 → Judged (range_at s 0) (range_at s 8) w → output_of s ≡ words w
unfolding output_of willingness_in
prints_right s w l j =
    let e : willingness (range_at s 0) (range_at s 8) ≡ w = judged-once (range_at s 0) (range_at s 8) (willingness (range_at s 0) (range_at s 8)) w (ends-decide (range_at s 0) (range_at s 8)) j in
    rw (eq-eqb (length s) 16 l) (ap words e)

words-length : (w : Result Willingness ℕ) → length (words w) ≤ 20
unfolding words
words-length (Ok Willing) = omega arith
words-length (Ok CertainlyUnwilling) = omega arith
words-length (Ok Unsure) = omega arith
words-length (Err q) = omega (arith, refusal-length q)

-- 20 bytes hold every output
pub output-length : (s : List ℕ) → length (output_of s) ≤ 20
unfolding output_of
output-length s = words-length (willingness_in s)
