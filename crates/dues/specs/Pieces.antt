-- A sheet that comes in pieces, of which the program holds one at a time: what it keeps of those before the last, and the answer after the last.
use Rattle.std.specs.Prelude.{ℕ, Result, Err, ◌≡◌, Bool, true, false, cond, ◌&&◌, List, [], ◌∷◌, ◌++◌, length}
use Rattle.tariff.specs.declared.Shares.{Shares}
use Rattle.dues.specs.declared.Kept.{Kept}
use Rattle.dues.specs.Sheet.{lockages, every, listed, whole, dues_for}

-- the bytes of a piece: whole lockages, and more than 1,000 of them; the last piece has fewer
abbrev pub piece_length : ℕ
piece_length = 65536

-- kept is whether there were pieces, and whether all their lockages are listed; before the first piece,
abbrev pub nothing_kept : Kept
nothing_kept = record { some = false; listed = true }

-- after one piece more,
abbrev pub kept_with : Kept → List ℕ → Kept
kept_with k s = record { some = true; listed = k.listed && every listed (lockages s) }

-- and after these
unfoldable pub kept_of : Kept → List (List ℕ) → Kept
kept_of k [] = k
kept_of k (s ∷ pieces) = kept_of (kept_with k s) pieces

-- the answer to a sheet of more than 1,000 lockages, from whether those before its last piece are listed, and the last piece: 1, 3 or 22, in this sequence
unfoldable pub long_dues : Bool → List ℕ → Result Shares ℕ
long_dues all s = cond (whole s) (cond (all && every listed (lockages s)) (Err 22) (Err 3)) (Err 1)

-- the answer after the last piece
unfoldable pub last_answer : Kept → List ℕ → Result Shares ℕ
last_answer k s = cond k.some (long_dues k.listed s) (dues_for s)

-- the bytes of these pieces, one after the other; and that each is a whole one
unfoldable pub joined : List (List ℕ) → List ℕ
joined [] = []
joined (s ∷ pieces) = s ++ joined pieces

abbrev pub EachWhole : List (List ℕ) → Type 0
EachWhole [] = Unit {0}
EachWhole (s ∷ pieces) = (length s ≡ piece_length) × EachWhole pieces

-- That this is the answer to the sheet, however many pieces it comes in.
pub record InPieces : Type 0 where
  pub answer : (pieces : List (List ℕ)) (last : List ℕ) → EachWhole pieces → last_answer (kept_of nothing_kept pieces) last ≡ dues_for (joined pieces ++ last)
