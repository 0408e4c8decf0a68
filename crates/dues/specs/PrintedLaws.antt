-- How long what is printed can be: a buffer that always holds it.
use Rattle.std.specs.Prelude.{ℕ, Result, Ok, Err, ◌≤◌, List, length}
use Rattle.std.proofs.Common.{arith, length-append}
use Rattle.text.specs.Lengths.{decimal-length, refusal-length}
use Rattle.tariff.specs.declared.Shares.{Shares}
use Rattle.dues.specs.declared.Kept.{Kept}
use Rattle.dues.specs.Pieces.{last_answer}
use Rattle.dues.specs.Printed.{totals_line, answer_line, output_of}

pub totals-length : (t : Shares) → length (totals_line t) ≤ 22
totals-length t = simp length-append (omega (arith, decimal-length t.upper, decimal-length t.lower))

line-length : (a : Result Shares ℕ) → length (answer_line a) ≤ 22
unfolding answer_line
line-length (Ok t) = totals-length t
line-length (Err q) = omega (arith, refusal-length q)

-- 22 bytes hold the output for any sheet, in pieces or not
pub always_fits : (k : Kept) (s : List ℕ) → length (output_of k s) ≤ 22
always_fits k s = line-length (last_answer k s)
