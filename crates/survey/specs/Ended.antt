-- How a schedule ended. Document 02, U13.
use Rattle.std.specs.Prelude.{ℕ, Bool, true, false, cond, not, ◌||◌, eqb}
use Rattle.ground.specs.Lists.{nth}
use Rattle.ground.specs.Quantify.{all_to, any_to}
use Rattle.model.specs.Numbers.{says_move, is_stay}
use Rattle.model.specs.declared.Outcome.{Outcome}
use Rattle.bench_report.specs.declared.Row.{Row}
use Rattle.bench_report.specs.declared.Summary.{Summary}
use Rattle.bench_report.specs.Lines.{blank_row}
use Rattle.survey.specs.declared.Ending.{Ending}
use Rattle.survey.specs.declared.Ending.TheVariants.{Moved, Stayed, Rest}

-- what the C line of controller i shows
abbrev pub row_of : Summary → ℕ → Row
row_of end i = nth blank_row end.rows i

-- "not stopped": running or standing by. Document 01: "stage (8 stopped, 9 standing by)"
abbrev pub is_present : Row → Bool
is_present r = not (eqb r.stage 8)

-- "ended Move, likewise Stay": true is Move
abbrev pub has_ended : Bool → Outcome → Bool
has_ended true o = says_move o
has_ended false o = is_stay o

abbrev pub ended_if : Bool → Row → Bool
ended_if move r = not (is_present r) || has_ended move r.outcome

-- "every controller not stopped ended Move, likewise Stay"
unfoldable pub all_ended : Bool → Summary → Bool
all_ended move end = all_to end.n (λ i. ended_if move (row_of end i))

-- "A schedule with no controller left unstopped is in the rest."
unfoldable pub any_present : Summary → Bool
any_present end = any_to end.n (λ i. is_present (row_of end i))

unfoldable pub ending_of : Summary → Ending
ending_of end = cond (any_present end) (cond (all_ended true end) Moved (cond (all_ended false end) Stayed Rest)) Rest
