-- Document 01, "Questions put to a record or event": how an answer comes of a list of them.
use Rattle.std.specs.Prelude.{ℕ, Bool, true, false, List, [], ◌∷◌, map}

-- accepted, or refused with the number of the first question answered "no"
pub data Reply : Type 0 where
  accepted : Reply
  refused : ℕ → Reply

-- the number that is returned or printed
abbrev pub number : Reply → ℕ
number accepted = 0
number (refused q) = q

abbrev pub is_accepted : Reply → Bool
is_accepted accepted = true
is_accepted (refused q) = false

-- a question's number, and whether the answer is "yes"
pub record Question : Type 0 where
  pub number : ℕ
  pub yes : Bool

abbrev pub ask : ℕ → Bool → Question
ask q t = record { number = q; yes = t }

-- the numbers of questions, in their sequence
abbrev pub numbers_asked : List Question → List ℕ
numbers_asked qs = map (λ q. q.number) qs

-- "The first "no" gives its number."
unfoldable pub unless : ℕ → Bool → Reply → Reply
unless q true rest = rest
unless q false rest = refused q

unfoldable pub first_no : List Question → Reply
first_no [] = accepted
first_no (q ∷ qs) = unless q.number q.yes (first_no qs)
