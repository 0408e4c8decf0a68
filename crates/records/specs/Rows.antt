-- Records whose fields are used by the kind that stands first in them: a table with a row for each kind.
use Rattle.std.specs.Prelude.{ℕ, Bool, false, cond, List, [], ◌∷◌, eqb}

-- a kind's number, whether the other fields suit it (question 3), and the value that they then stand for
pub record KindRow (A : Type 0) : Type 0 where
  pub kind : ℕ
  pub listed : Bool
  pub value : A

abbrev pub row : {A : Type 0} → ℕ → Bool → A → KindRow A
row k t a = record { kind = k; listed = t; value = a }

-- the row of a kind; a kind without one is no listed value, and stands for nothing in particular
unfoldable pub row_of : {A : Type 0} → A → ℕ → List (KindRow A) → KindRow A
row_of any k [] = row k false any
row_of any k (r ∷ rs) = cond (eqb k r.kind) r (row_of any k rs)
