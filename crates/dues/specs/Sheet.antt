-- Document 02, U2: a sheet of lockages, the questions put to it, and its answer.
use Rattle.std.specs.Prelude.{ℕ, Result, Ok, Err, zero, suc, ◌+◌, ◌*◌, ◌/◌, ◌%◌, ◌≡◌, Bool, true, ◌&&◌, List, [], ◌∷◌, ◌++◌, eqb, leb, length}
use Rattle.model.specs.Questions.{Reply, accepted, refused, Question, ask, first_no}
use Rattle.records.specs.Bytes.{byte, number2}
use Rattle.records.specs.Codes.{is_outcome, outcome_of, is_flag, flag_of}
use Rattle.tariff.specs.declared.Shares.{Shares}
use Rattle.tariff.specs.Shares.{upper_share, lower_share}
use Rattle.tariff.specs.Charges.{charge}
use Rattle.dues.specs.declared.Lockage.{Lockage}

-- "4 bytes each with nothing between (length (2), outcome as on a card, 1 for such a return or 0)"
unfoldable pub lockage_at : List ℕ → ℕ → Lockage
lockage_at s at = record { length = number2 s at; outcome = byte s (at + 2); returned = byte s (at + 3) }

-- the first k lockages of a sheet, how many whole ones it has, and all of them
unfoldable pub lockages_to : List ℕ → ℕ → List Lockage
lockages_to s zero = []
lockages_to s (suc k) = lockages_to s k ++ (lockage_at s (k * 4) ∷ [])

abbrev pub count : List ℕ → ℕ
count s = length s / 4

abbrev pub lockages : List ℕ → List Lockage
lockages s = lockages_to s (count s)

-- what a lockage of a sheet pays
abbrev pub charge_of : Lockage → ℕ
charge_of l = charge l.length (outcome_of l.outcome) (flag_of l.returned)

-- every lockage of a list passes a test; what a list comes to
unfoldable pub every : (Lockage → Bool) → List Lockage → Bool
every p [] = true
every p (l ∷ ls) = p l && every p ls

unfoldable pub total : (Lockage → ℕ) → List Lockage → ℕ
total f [] = 0
total f (l ∷ ls) = f l + total f ls

-- is there no "short last piece"?
abbrev pub whole : List ℕ → Bool
whole s = eqb (length s % 4) 0

-- is there no "unlisted outcome or return"?
abbrev pub listed : Lockage → Bool
listed l = is_outcome l.outcome && is_flag l.returned

-- is there no "length of 0 or above 2,500"? Also where nothing is paid.
abbrev pub in_range : Lockage → Bool
in_range l = leb 1 l.length && leb l.length 2500

-- "Refused, the whole sheet, in this order: 1, a short last piece; 3, an unlisted outcome or return; 22, more than 1,000 lockages, or a
-- length of 0 or above 2,500."
unfoldable pub questions : List ℕ → List Question
questions s = ask 1 (whole s) ∷ ask 3 (every listed (lockages s)) ∷ ask 22 (leb (count s) 1000 && every in_range (lockages s)) ∷ []

-- "gives each owner's total": "Each charge is shared", so charge by charge
unfoldable pub totals : List Lockage → Shares
totals ls = record { upper = total (λ l. upper_share (charge_of l)) ls; lower = total (λ l. lower_share (charge_of l)) ls }

abbrev pub answered : Reply → Shares → Result Shares ℕ
answered accepted t = Ok t
answered (refused q) t = Err q

unfoldable pub dues_for : List ℕ → Result Shares ℕ
dues_for s = answered (first_no (questions s)) (totals (lockages s))

-- the paper's number for an answer, 0 for totals; and its values, nothing to either owner where the sheet is refused
abbrev pub number_of : Result Shares ℕ → ℕ
number_of (Ok t) = 0
number_of (Err q) = q

abbrev pub values_of : Result Shares ℕ → Shares
values_of (Ok t) = t
values_of (Err q) = record { upper = 0; lower = 0 }

-- what is promised of the answer to a sheet
pub record DuesOf (s : List ℕ) (r : Result Shares ℕ) : Type 0 where
  pub answer : r ≡ dues_for s
  -- "the two totals make up the sum of the charges"
  pub sum : number_of r ≡ 0 → (values_of r).upper + (values_of r).lower ≡ total charge_of (lockages s)
