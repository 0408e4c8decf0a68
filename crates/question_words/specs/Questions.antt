-- The words of the questions: document 01, "Questions put to a record or event", and those of document 02's requests. A "no" to one is a refusal with its number.
-- docs/QUESTIONS.md says of each when it is met, in these words.
use Rattle.std.specs.Prelude.{ℕ, suc, ◌≡◌, refl, List, [], ◌∷◌, map, get_or}
use Prim.Native.String.{String}
use Rattle.text.specs.Text.{ascii}

pub record Question : Type 0 where
  pub number : ℕ
  pub words : String

abbrev asks : ℕ → String → Question
asks k w = record { number = k; words = w }

abbrev pub questions : List Question
questions =
    asks 1 "Is the record as long as it should be?"
    ∷ asks 2 "Does it begin with its mark?"
    ∷ asks 3 "Are the kind and the flags listed values, and unused fields 0?"
    ∷ asks 4 "Are n and f in range?"
    ∷ asks 5 "Is a lock set up?"
    ∷ asks 6 "Is no lock set up yet?"
    ∷ asks 7 "Are the controllers' numbers in 1 to n, sender and receiver different?"
    ∷ asks 8 "Is the order number at least 1?"
    ∷ asks 9 "Does the sheet suit the kind?"
    ∷ asks 10 "May this kind go from the one to the other?"
    ∷ asks 11 "Is the position from -20,000 to 20,000 mm?"
    ∷ asks 12 "Is the order number above the last one?"
    ∷ asks 13 "Has every running controller an outcome, or was no order opened yet?"
    ∷ asks 14 "Is an order open?"
    ∷ asks 15 "Is the controller in the right condition?"
    ∷ asks 16 "Is its stage right?"
    ∷ asks 17 "Was that telegram sent in this order?"
    ∷ asks 18 "Was that word put in this order, and no other given? Without an arbiter: has a ballot settled it?"
    ∷ asks 19 "Has the controller a card?"
    ∷ asks 20 "Are all four levels from -100,000 to 100,000 mm?"
    ∷ asks 21 "Is each range's low not above its high?"
    ∷ asks 22 "Are there at most 1,000 lockages, and is every length from 1 to 2,500 cm?"
    ∷ asks 23 "Is the starting number not 0, and the count at most 4,000?"
    ∷ asks 24 "Does the delivered sheet contradict none that the controller holds?"
    ∷ asks 25 "Is the calling lock one of 1 to 8?"
    ∷ asks 26 "Is there an event to undo?"
    ∷ asks 27 "Is k from 1 to 1,000, s not 0, and s + k - 1 at most 4,294,967,295?"
    ∷ asks 28 "Is it a ballot from 1 to 255, and may the controller open it?"
    ∷ asks 29 "Has the lock no arbiter, and has the controller put a word?"
    ∷ asks 30 "Is the card this controller's own?"
    ∷ []

-- the words, by number from 0 on, which is no question's
abbrev pub words_by_number : List (List ℕ)
words_by_number = [] ∷ map (λ (q : Question). ascii q.words) questions

-- each stands at its number
abbrev counted : ℕ → List Question → List ℕ
counted k [] = []
counted k (q ∷ qs) = k ∷ counted (suc k) qs

pub numbered : map (λ (q : Question). q.number) questions ≡ counted 1 questions
numbered = refl

-- the words of a question; none for a number that no question has
unfoldable pub question_words : ℕ → List ℕ
question_words k = get_or words_by_number k []
