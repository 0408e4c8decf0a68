-- What the dues program prints: the upper and the lower total, or "-" and the number with which the sheet is refused.
use Rattle.std.specs.Prelude.{ℕ, Result, Ok, Err, List, [], ◌∷◌}
use Rattle.text.specs.Text.{decimal, line, refusal}
use Rattle.tariff.specs.declared.Shares.{Shares}
use Rattle.dues.specs.declared.Kept.{Kept}
use Rattle.dues.specs.Pieces.{last_answer}

abbrev pub totals_line : Shares → List ℕ
totals_line t = line (decimal t.upper ∷ decimal t.lower ∷ [])

unfoldable pub answer_line : Result Shares ℕ → List ℕ
answer_line (Ok t) = totals_line t
answer_line (Err q) = refusal q

-- what the program prints of a sheet in pieces, from what it has kept and the last one; of a whole sheet it keeps nothing
abbrev pub output_of : Kept → List ℕ → List ℕ
output_of k s = answer_line (last_answer k s)
