-- Document 02, U1: what the answer to two ranges says, and which vote it is.
use Rattle.std.specs.Prelude.{◌≡◌, ℕ, Result, Ok, Err, Bool, true, false, ◌&&◌, List, [], ◌∷◌, ℤ, int_le}
use Rattle.model.specs.Questions.{Reply, accepted, refused, Question, ask, first_no}
use Rattle.levels.specs.declared.Range.{Range}
use Rattle.levels.specs.declared.Willingness.{Willingness}
use Rattle.levels.specs.declared.Willingness.TheVariants.{Willing, CertainlyUnwilling, Unsure}
use Rattle.levels.specs.Heads.{low, high, mm, minus, EveryPair, NoPair}

-- "a level outside −100,000 to 100,000"
abbrev pub is_level : ℤ → Bool
is_level z = int_le (minus 100000) z && int_le z (mm 100000)

abbrev pub both_levels : Range → Bool
both_levels r = is_level (low r) && is_level (high r)

-- "a low above its high"
abbrev pub ordered : Range → Bool
ordered r = int_le (low r) (high r)

-- "Refused: 20, a level outside −100,000 to 100,000, tested first; 21, a low above its high."
abbrev pub questions : Range → Range → List Question
questions above below = ask 20 (both_levels above && both_levels below) ∷ ask 21 (ordered above && ordered below) ∷ []

-- What the answer says of two ranges that are not refused. "The vote is willing exactly when every pair .. It is "certainly unwilling" when
-- no pair has, and otherwise "unsure"".
abbrev pub Says : Range → Range → Result Willingness ℕ → Type 0
Says above below (Ok Willing) = EveryPair above below
Says above below (Ok CertainlyUnwilling) = NoPair above below
Says above below (Ok Unsure) = (EveryPair above below → ⊥) × (NoPair above below → ⊥)
Says above below (Err q) = ⊥

abbrev pub SaysAfter : Reply → Range → Range → Result Willingness ℕ → Type 0
SaysAfter accepted above below w = Says above below w
SaysAfter (refused q) above below w = w ≡ Err q

-- the answer is right for these ranges
unfoldable pub Judged : Range → Range → Result Willingness ℕ → Type 0
Judged above below w = SaysAfter (first_no (questions above below)) above below w

-- "otherwise "unsure", which votes unwilling"; what was refused does not vote willing either
unfoldable pub votes : Result Willingness ℕ → Bool
votes (Ok Willing) = true
votes (Ok CertainlyUnwilling) = false
votes (Ok Unsure) = false
votes (Err q) = false
